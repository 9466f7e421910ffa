-- What writing adds to a text.
-- Source: this project's own.
use Rattle.std.specs.Prelude.{◌≡◌, ℕ, List, ◌++◌, String, string_bytes, encode_utf8_all}

-- the later text is the earlier one with these characters at its end
abbrev pub Appends : {Z : Type 0} → String Z → String Z → List ℕ → Type 0
Appends old new text = string_bytes new ≡ string_bytes old ++ encode_utf8_all text
