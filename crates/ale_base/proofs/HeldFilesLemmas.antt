-- Finding a file by its name, and what is left of it.
use Rattle.std.proofs.Common.{ℕ, ◌+◌, ◌-◌, ◌<◌, ◌≡◌, ◌≢◌, List, [], ◌∷◌, ◌++◌, Option, None, Some, Bool, true, false, cond, min, length, take, drop, string_bytes, refl, sym, ap, ◌∙◌, arith, take-append-drop, length-append, length-drop, length-take}
use Rattle.std.proofs.Math.Seq.{drop-nil}
use Rattle.std.proofs.Math.ListN.{drop_of_length-le}
use Rattle.std.proofs.lemmas.Bool.{false_from_ne_true, cond-false}
use Rattle.std.proofs.lemmas.List.{map-append, drop-drop, take-append-le, take_all}
use Rattle.std.proofs.lemmas.Slice.Eq.{bytes_eq-Decides}
use Rattle.std.specs.Str.{bytes_eq}
use Rattle.std.specs.Option.{unwrap_or}
use Rattle.ale_base.specs.declared.held_file.HeldFile.{HeldFile}
use Rattle.ale_base.specs.HeldFiles.{NamedBytes, content_of, rest_of}
use Rattle.ale_base.specs.NamedBytes.{all_named}

-- a name that is not held is neither the first name nor held after it
not_first : (test : Bool) (bytes : List ℕ) (rest : Option (List ℕ))
    → cond test (Some bytes) rest ≡ None → (test ≡ false) × (rest ≡ None)
not_first true bytes rest none = cc
not_first false bytes rest none = (refl, none)

-- one file more at the end, whose name was not held: its bytes are the content of its name
pub content-append_same : (files : List NamedBytes) (name bytes : List ℕ)
    → content_of files name ≡ None → content_of (files ++ (name, bytes) ∷ []) name ≡ Some bytes
content-append_same [] name bytes none = rw ((bytes_eq-Decides name name).1 refl) refl
content-append_same (file ∷ files) name bytes none =
    let parts : (bytes_eq file.0 name ≡ false) × (content_of files name ≡ None) = not_first (bytes_eq file.0 name) file.1 (content_of files name) none in
    cond-false (bytes_eq file.0 name) (Some file.1) (content_of (files ++ (name, bytes) ∷ []) name) parts.0
    ∙ content-append_same files name bytes parts.1

-- and the content of every other name stays
pub content-append_other : (files : List NamedBytes) (name bytes other : List ℕ)
    → other ≢ name → content_of (files ++ (name, bytes) ∷ []) other ≡ content_of files other
content-append_other [] name bytes other ne =
    cond-false (bytes_eq name other) (Some bytes) None
    (false_from_ne_true (bytes_eq name other) (λ e. ne (sym ((bytes_eq-Decides name other).0 e))))
content-append_other (file ∷ files) name bytes other ne =
    ap (λ rest. cond (bytes_eq file.0 other) (Some file.1) rest) (content-append_other files name bytes other ne)

-- the same for the files as the code holds them
pub content-pushed : (old new : List HeldFile) (file : HeldFile) (held : List NamedBytes) (name bytes : List ℕ)
    → all_named old ≡ held → content_of (all_named old) name ≡ None → new ≡ old ++ file ∷ []
    → string_bytes file.name ≡ name → file.bytes.items ≡ bytes
    → content_of (all_named new) name ≡ Some (unwrap_or (content_of held name) bytes)
content-pushed old new file held name bytes held_is none pushed name_is bytes_is =
    rw (← held_is, none, pushed, map-append, name_is, bytes_is) (content-append_same (all_named old) name bytes none)

pub others-pushed : (old new : List HeldFile) (file : HeldFile) (held : List NamedBytes) (name bytes : List ℕ)
    → all_named old ≡ held → new ≡ old ++ file ∷ []
    → string_bytes file.name ≡ name → file.bytes.items ≡ bytes
    → (other : List ℕ) → other ≢ name → content_of (all_named new) other ≡ content_of held other
others-pushed old new file held name bytes held_is pushed name_is bytes_is other ne =
    rw (← held_is, pushed, map-append, name_is, bytes_is) (content-append_other (all_named old) name bytes other ne)

-- what is left further on in the chosen file
pub rest_of-more : (files : List NamedBytes) (chosen : Option ℕ) (at count : ℕ)
    → rest_of files chosen (at + count) ≡ drop count (rest_of files chosen at)
rest_of-more files None at count = sym (drop-nil count)
rest_of-more files (Some place) at count = sym (drop-drop count at _)

-- as much as fits was copied from what was left to the front of a buffer
pub copied-consumes : (left old new after : List ℕ) (count : ℕ)
    → count ≡ min (length left) (length old) → new ≡ take count left ++ drop count old → after ≡ drop count left
    → (left ≡ take count new ++ after) × (count ≡ 0 → 0 < length new → after ≡ [])
copied-consumes left old new after count count_is new_is after_is =
    let copied_len : length (take count left) ≡ count = length-take count left ∙ omega arith in
    let front : take count new ≡ take count left =
    ap (λ l. take count l) new_is
    ∙ take-append-le count (take count left) (drop count old) (omega arith)
    ∙ take_all count (take count left) (omega arith) in
    let new_len : length new ≡ length old =
    ap length new_is ∙ length-append (take count left) (drop count old) ∙ (let dropped : length (drop count old) ≡ length old - count = length-drop count old in omega arith) in (
      sym (ap (λ l. l ++ after) front ∙ ap (λ l. take count left ++ l) after_is ∙ take-append-drop count left),
      λ (none : count ≡ 0) (some : 0 < length new). after_is ∙ drop_of_length-le left (omega arith),
    )
