-- Files that are held in memory.
use Rattle.std.specs.Prelude.{ℕ, Bool, List, [], ◌∷◌, ◌++◌, Option, None, Some, is_some, is_none, drop, slice_index_or, if◌then◌else◌, ◌==◌, ◌||◌}
use Rattle.std.specs.List.{list_any}
use Rattle.std.specs.Str.{bytes_eq}

-- a name, and the bytes of its file
abbrev pub NamedBytes : Type 0
NamedBytes = List ℕ × List ℕ

-- the bytes that are held under a name
abbrev pub content_of : List NamedBytes → List ℕ → Option (List ℕ)
content_of [] name = None
content_of (file ∷ files) name = if bytes_eq file.0 name then Some file.1 else content_of files name

-- the files with one more at the end, unless its name is held already
abbrev pub with_file : List NamedBytes → List ℕ → List ℕ → List NamedBytes
with_file files name bytes = if is_some (content_of files name) then files else files ++ (name, bytes) ∷ []

-- what is left of the file at a place from the byte `at` on; nothing where no place was chosen
abbrev pub rest_of : List NamedBytes → Option ℕ → ℕ → List ℕ
rest_of files None at = []
rest_of files (Some place) at = drop at (slice_index_or files place ([], [])).1

-- whether a call's number is listed
abbrev pub is_listed : List ℕ → ℕ → Bool
is_listed numbers call = list_any (λ n. n == call) numbers

-- files in memory as contracts see them: what is held, whether one is chosen, what is left of it, the
-- numbers of the calls that fail, the number of the next call, and the count of faults
pub record HeldFiles : Type 0 where
  pub held : List NamedBytes
  pub chosen : Bool
  pub left : List ℕ
  pub failing : List ℕ
  pub calls : ℕ
  pub faults : ℕ

-- whether the next call is `choose` of this name and fails
abbrev pub choose_fails : HeldFiles → List ℕ → Bool
choose_fails files name = is_listed files.failing files.calls || is_none (content_of files.held name)
