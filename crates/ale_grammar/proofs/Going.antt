-- Things made one after another: those made and those that are left give all.
use Rattle.std.proofs.Common.{◌≡◌, ℕ, ◌+◌, ◌<◌, ◌≤◌, List, [], ◌∷◌, ◌++◌, map, drop, get_or, length, refl, sym, ap, ◌∙◌, subst}
use Rattle.std.proofs.Math.ListN.{drop_of_length-le}
use Rattle.std.proofs.lemmas.List.{map-append, append_assoc, append-nil}
use Rattle.ale_declared.specs.Declarations.{Declared}
use Rattle.ale_declaration.specs.declared.declaration.LinePart.{LinePart}
use Rattle.ale_declaration.specs.declared.declaration.LinePart.TheVariants as written
use Rattle.ale_declaration.specs.declared.declaration.Part.{Part}
use Rattle.ale_declaration.specs.Declarations.{DeclarationData}
use Rattle.ale_declaration.specs.Declarations as declaration
use Rattle.ale_morph.specs.declared.line.Piece.{Piece}
use Rattle.ale_logic.specs.Programs as plain
use Rattle.ale_program.specs.declared.element.Element.{Element}
use Rattle.ale_program.specs.Views.{element_data}
use Rattle.ale_describe.specs.Names.{NamesData}
use Rattle.ale_describe.specs.Scopes.{ScopeData}
use Rattle.ale_describe.proofs.Loops.{front}
use Rattle.ale_describe.proofs.Knowing.{right_left, right_right}
use Rattle.ale_vocabulary.specs.First.{AllRight}
use Rattle.ale_vocabulary.specs.Knowing.{IsUnknown}
use Rattle.ale_vocabulary.specs.Mentions.{mentions_of_element, mentions_of_elements}
use Rattle.ale_vocabulary.specs.Vocabularies.{VocabularyData}
use Rattle.ale_grammar.specs.Lines.{side_after}
use Rattle.ale_grammar.specs.Building.{piece_after}
use Rattle.ale_grammar.specs.Programs.{element_described, elements_described}

-- what was made, before what is left
abbrev pub before : {A S : Type 0} → List A → List A × S → List A × S
before xs p = (xs ++ p.0, p.1)

before_push : {A S : Type 0} (xs ys : List A) (x : A) (s : S) → before (xs ++ x ∷ []) (ys, s) ≡ before xs (x ∷ ys, s)
before_push xs ys x s = ap (λ z. (z, s)) (append_assoc xs (x ∷ []) ys)

before_none : {A S : Type 0} (xs : List A) (s : S) → ◌≡◌ {A = List A × S} (xs, s) (before xs ([], s))
before_none xs s = ap (λ z. (z, s)) (sym (append-nil xs))

-- sides of lines

abbrev Side : Type 0
Side = List Piece × List (List ℕ)

abbrev piece_step : List LinePart → Piece × List (List ℕ) → Side
piece_step ps p = (p.0 ∷ (side_after p.1 ps).0, (side_after p.1 ps).1)

side_begins : (vs : List (List ℕ)) (p : LinePart) (ps : List LinePart) → side_after vs (p ∷ ps) ≡ piece_step ps (piece_after vs p)
side_begins vs (written.Piece letters) ps = refl
side_begins vs (written.Slot x) ps = refl

pub one_piece : (vs us : List (List ℕ)) (parts : List LinePart) (i : ℕ) (p : LinePart) (made made' : List Piece) (x : Piece) (whole : Side) →
    i < length parts → p ≡ get_or parts i p → before made (side_after vs (drop i parts)) ≡ whole → (x, us) ≡ piece_after vs p → made' ≡ made ++ x ∷ [] →
    before made' (side_after us (drop (i + 1) parts)) ≡ whole
one_piece vs us parts i p made made' x whole low is so_far gives push =
    ap (λ z. before z (side_after us (drop (i + 1) parts))) push
    ∙ (before_push made (side_after us (drop (i + 1) parts)).0 x (side_after us (drop (i + 1) parts)).1
    ∙ (ap (λ (q : Piece × List (List ℕ)). before made (piece_step (drop (i + 1) parts) q)) gives
    ∙ (ap (before made) (sym (ap (side_after vs) (front parts i p low is) ∙ side_begins vs p (drop (i + 1) parts))) ∙ so_far)))

pub side_done : (vs : List (List ℕ)) (parts : List LinePart) (i : ℕ) (made : List Piece) (whole : Side) → length parts ≤ i →
    before made (side_after vs (drop i parts)) ≡ whole → ◌≡◌ {A = Side} (made, vs) whole
side_done vs parts i made whole out so_far =
    before_none made vs ∙ (ap (λ z. before made (side_after vs z)) (sym (drop_of_length-le parts out)) ∙ so_far)

-- elements of rules

abbrev Elements : Type 0
Elements = List plain.Element × ScopeData

abbrev element_step : Declared → NamesData → List declaration.Element → plain.Element × ScopeData → Elements
element_step d names es p = (p.0 ∷ (elements_described d names p.1 es).0, (elements_described d names p.1 es).1)

abbrev pub elements_left : Declared → NamesData → ScopeData → List Part → ℕ → Elements
elements_left d names s parts i = elements_described d names s (map declaration.element_data (drop i parts))

pub one_element : (d : Declared) (names : NamesData) (s u : ScopeData) (parts : List Part) (i : ℕ) (p : Part) (made made' : List Element) (x : Element) (whole : Elements) →
    i < length parts → p ≡ get_or parts i p → before (map element_data made) (elements_left d names s parts i) ≡ whole →
    (element_data x, u) ≡ element_described d names s (declaration.element_data p) → made' ≡ made ++ x ∷ [] →
    before (map element_data made') (elements_left d names u parts (i + 1)) ≡ whole
one_element d names s u parts i p made made' x whole low is so_far gives push =
    ap (λ z. before z (elements_left d names u parts (i + 1))) (ap (map element_data) push ∙ map-append element_data made (x ∷ []))
    ∙ (before_push (map element_data made) (elements_left d names u parts (i + 1)).0 (element_data x) (elements_left d names u parts (i + 1)).1
    ∙ (ap (λ (q : plain.Element × ScopeData). before (map element_data made) (element_step d names (map declaration.element_data (drop (i + 1) parts)) q)) gives
    ∙ (ap (before (map element_data made)) (sym (ap (λ z. elements_described d names s (map declaration.element_data z)) (front parts i p low is))) ∙ so_far)))

pub elements_done : (d : Declared) (names : NamesData) (s : ScopeData) (parts : List Part) (i : ℕ) (made : List Element) (whole : Elements) → length parts ≤ i →
    before (map element_data made) (elements_left d names s parts i) ≡ whole → ◌≡◌ {A = Elements} (map element_data made, s) whole
elements_done d names s parts i made whole out so_far =
    before_none (map element_data made) s
    ∙ (ap (λ z. before (map element_data made) (elements_described d names s (map declaration.element_data z))) (sym (drop_of_length-le parts out)) ∙ so_far)

-- lists with a function put on each

pub one_mapped : {A B : Type 0} (f : A → B) (xs : List A) (i : ℕ) (x : A) (made made' whole : List B) (y : B) → i < length xs → x ≡ get_or xs i x →
    made ++ map f (drop i xs) ≡ whole → y ≡ f x → made' ≡ made ++ y ∷ [] → made' ++ map f (drop (i + 1) xs) ≡ whole
one_mapped f xs i x made made' whole y low is so_far gives push =
    ap (λ z. z ++ map f (drop (i + 1) xs)) (push ∙ ap (λ z. made ++ z ∷ []) gives)
    ∙ (append_assoc made (f x ∷ []) (map f (drop (i + 1) xs)) ∙ (ap (λ z. made ++ map f z) (sym (front xs i x low is)) ∙ so_far))

pub mapped_done : {A B : Type 0} (f : A → B) (xs : List A) (i : ℕ) (made whole : List B) → length xs ≤ i → made ++ map f (drop i xs) ≡ whole → made ≡ whole
mapped_done f xs i made whole out so_far = sym (append-nil made) ∙ (ap (λ z. made ++ map f z) (sym (drop_of_length-le xs out)) ∙ so_far)

-- what is known of the first element that is left, and of the others
pub elements_known : (d : Declared) (v : VocabularyData) (parts : List Part) (i : ℕ) (p : Part) → i < length parts → p ≡ get_or parts i p →
    AllRight (IsUnknown d v) (mentions_of_elements (map declaration.element_data (drop i parts))) →
    AllRight (IsUnknown d v) (mentions_of_element (declaration.element_data p)) × AllRight (IsUnknown d v) (mentions_of_elements (map declaration.element_data (drop (i + 1) parts)))
elements_known d v parts i p low is known =
    let both = subst (λ (z : List Part). AllRight (IsUnknown d v) (mentions_of_elements (map declaration.element_data z))) (front parts i p low is) known in (
      right_left (IsUnknown d v) (mentions_of_element (declaration.element_data p)) (mentions_of_elements (map declaration.element_data (drop (i + 1) parts))) both,
      right_right (IsUnknown d v) (mentions_of_element (declaration.element_data p)) (mentions_of_elements (map declaration.element_data (drop (i + 1) parts))) both,
    )
