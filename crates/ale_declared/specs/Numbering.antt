-- What numbering gives whatever is declared: numbers and names stand for one another, and each number that
-- is used is below the count. Source: this project's own profile.
use Rattle.std.specs.Prelude.{◌≡◌, ◌≢◌, ℕ, ◌<◌, Some, List, length, slice_get}
use Rattle.ale_declared.specs.Lists.{Has}
use Rattle.ale_declared.specs.Names.{number, name_of}
use Rattle.ale_declared.specs.Declarations.{Declared, declared}
use Rattle.ale_declared.specs.declared.decl.Mention.{Mention}
use Rattle.ale_declared.specs.declared.decl.SigDecl.{SigDecl}

-- each number below the count is that of the name with it
abbrev pub IsNumbering : List (List ℕ) → Type 0
IsNumbering names = (n : ℕ) → n < length names → number names (name_of names n) ≡ n

-- no two numbers have one name
abbrev pub AreDistinct : List (List ℕ) → Type 0
AreDistinct names = (i j : ℕ) (x : List ℕ) → slice_get names i ≡ Some x → slice_get names j ≡ Some x → i ≡ j

-- whatever is declared, no two types have one name, and no two features
abbrev pub NamesAreDistinct : Type 0
NamesAreDistinct = (decls : List SigDecl) → AreDistinct (declared decls).types × AreDistinct (declared decls).features

-- All numbers are below the counts, each type but `bot` has a type directly above it, and each feature is
-- mentioned.
pub record IsWellNumbered (d : Declared) : Type 0 where
  pub edges : (a b : ℕ) → Has d.edges (a, b) → (a < length d.types) × (b < length d.types)
  pub mentions : (m : Mention) → Has d.mentions m → (m.at < length d.types) × (m.feature < length d.features) × (m.restriction < length d.types)
  pub ext : (t : ℕ) → Has d.ext t → t < length d.types
  pub some_type : 0 < length d.types
  pub has_parent : (t : ℕ) → t < length d.types → t ≢ 0 → (p : ℕ) × Has d.edges (p, t)
  pub mentioned : (f : ℕ) → f < length d.features → (m : Mention) × Has d.mentions m × (m.feature ≡ f)

-- whatever is declared is well numbered
abbrev pub DeclaredIsNumbered : Type 0
DeclaredIsNumbered = (decls : List SigDecl) → IsWellNumbered (declared decls)
