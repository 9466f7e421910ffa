-- The program of declarations that are right: what is needed where it is made.
use Rattle.std.proofs.Common.{List, []}
use Rattle.ale_declared.specs.Declarations.{Declared}
use Rattle.ale_hierarchy.specs.Hierarchy.{IsLawful}
use Rattle.ale_hierarchy.specs.Order.{hierarchy}
use Rattle.ale_declaration.specs.Declarations.{DeclarationData}
use Rattle.ale_vocabulary.specs.Vocabularies.{vocabulary_of}
use Rattle.ale_program.specs.declared.parts.Parts.{Parts}
use Rattle.ale_program.specs.Kept.{IsProgram}
use Rattle.ale_describe.specs.Macros.{names_of}
use Rattle.ale_describe.specs.Declaring.{AreKnownDeclarations}
use Rattle.ale_describe.specs.Laws.{FitsNames}
use Rattle.ale_naming.specs.Faults.{AreRight}
use Rattle.ale_grammar.specs.Assembling.{HaveBoundLines, IsAssembled}
use Rattle.ale_grammar.proofs.Gathered.{all_right, is_program}

-- all mentions are known
pub known : (d : Declared) (ds : List DeclarationData) → AreRight d ds → AreKnownDeclarations d (vocabulary_of ds) ds
known d ds right = all_right d (vocabulary_of ds) 1 [] ds right.known

-- parts that these declarations make are those of a program
pub kept : (d : Declared) (ds : List DeclarationData) (p : Parts) → IsLawful (hierarchy d) → FitsNames d (names_of d ds) → AreRight d ds → HaveBoundLines ds →
    IsAssembled d ds p → IsProgram p
kept d ds p lawful fits right bound made = is_program d ds p fits right bound made lawful
