-- What the parts of a program are, where declarations make it. Source: this project's own.
use Rattle.std.specs.Prelude.{◌≡◌, ℕ, List, [], ◌∷◌, map}
use Rattle.std.specs.List.{flat_map}
use Rattle.ale_declared.specs.Declarations.{Declared}
use Rattle.ale_declaration.specs.Declarations.{DeclarationData, signature, constraint, macro, clause, word, empty, lex_rule, rule, semantics, lex_depth, chain_length, passed_over}
use Rattle.ale_declaration.specs.declared.declaration.MorphLine.{MorphLine}
use Rattle.ale_declaration.specs.Forms.{IsBound}
use Rattle.ale_program.specs.declared.parts.Parts.{Parts}
use Rattle.ale_program.specs.Views.{program}
use Rattle.ale_describe.specs.Names.{NamesData}
use Rattle.ale_describe.specs.Macros.{names_of}
use Rattle.ale_grammar.specs.Programs.{Part, part_of, clause_in, program_of}
use Rattle.ale_grammar.specs.Written.{KeepsWritten}
use Rattle.ale_grammar.specs.Building.{Bucket, bucket}

-- in each line each variable of the right side stands in the left side, and no `_` stands in the right side
abbrev pub AreBoundLines : List MorphLine → Type 0
AreBoundLines [] = Unit {0}
AreBoundLines (l ∷ ls) = IsBound l.left l.right × AreBoundLines ls

abbrev pub HasBoundLines : DeclarationData → Type 0
HasBoundLines (lex_rule n t u g ls) = AreBoundLines ls
HasBoundLines (signature s) = Unit {0}
HasBoundLines (constraint n t g) = Unit {0}
HasBoundLines (macro m ps t) = Unit {0}
HasBoundLines (clause p ts g) = Unit {0}
HasBoundLines (word w t) = Unit {0}
HasBoundLines (empty t) = Unit {0}
HasBoundLines (rule n t es) = Unit {0}
HasBoundLines (semantics p) = Unit {0}
HasBoundLines (lex_depth n) = Unit {0}
HasBoundLines (chain_length n) = Unit {0}
HasBoundLines (passed_over n) = Unit {0}

-- likewise in all lines of lexical rules, as in declarations that were read
abbrev pub HaveBoundLines : List DeclarationData → Type 0
HaveBoundLines [] = Unit {0}
HaveBoundLines (x ∷ xs) = HasBoundLines x × HaveBoundLines xs

-- a predicate by its key, and its clauses among these parts
abbrev pub bucket_of : List Part → List ℕ → Bucket
bucket_of ps k = record { key = k; clauses = flat_map (clause_in k) ps }

abbrev pub buckets_of : Declared → NamesData → List DeclarationData → List Bucket
buckets_of d names ds = map (bucket_of (map (part_of d names) ds)) names.vocabulary.predicates

-- the parts are those of the program of these declarations, over this signature
pub record IsAssembled (d : Declared) (ds : List DeclarationData) (p : Parts) : Type 0 where
  pub signature : p.signature ≡ d
  pub program : program p ≡ program_of d ds
  pub preds : map bucket p.preds ≡ buckets_of d (names_of d ds) ds
  pub written : KeepsWritten p ds
