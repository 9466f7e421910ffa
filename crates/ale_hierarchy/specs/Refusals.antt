-- What can be wrong with a declared signature, a definition for each fault, and which fault a signature has:
-- the first in the order of the parts below, shown by the first types and features in the order of their
-- numbers. Source: Carpenter 1992, chapters 2 and 6 (bounded completeness, feature introduction, upward
-- closure, no loops); the order of the tests, the extensional types and the limits are this project's own.
use Rattle.std.specs.Prelude.{◌≡◌, ◌≢◌, ℕ, ◌<◌, ◌≤◌, ◌⊎◌, ◌↔◌, Option, Some, Result, IsErrOf, length}
use Rattle.ale_relation.specs.Paths.{Leads}
use Rattle.ale_declared.specs.Lists.{Has}
use Rattle.ale_declared.specs.Names.{name_of}
use Rattle.ale_declared.specs.Declarations.{Declared}
use Rattle.ale_declared.specs.declared.decl.Mention.{Mention}
use Rattle.ale_hierarchy.specs.Limits.{most_types, most_features, most_nodes}
use Rattle.ale_hierarchy.specs.Order.{IsAbove, IsJoin, Applies, IsRestriction, Introduces, size}
use Rattle.ale_hierarchy.specs.Accepted.{restriction_edges}
use Rattle.ale_hierarchy.specs.declared.fault.Fault.{Fault}
use Rattle.ale_hierarchy.specs.declared.fault.Fault.TheVariants.{TooManyTypes, TooManyFeatures, SubCycle, NoJoin, TwoIntros, ValueClash, Loop, ExtNotMaximal, FillTooLarge}
use Rattle.ale_hierarchy.specs.declared.error.SigError.{SigError}
use Rattle.ale_hierarchy.specs.declared.error.SigError.TheVariants as refusal

-- ---- first by number

-- n is the first number of which P holds
pub record IsFirst (P : ℕ → Type 0) (n : ℕ) : Type 0 where
  pub holds : P n
  pub none_before : (m : ℕ) → m < n → P m → ⊥

-- the pair (x, y) comes before the pair (a, b)
abbrev pub IsBefore : ℕ → ℕ → ℕ → ℕ → Type 0
IsBefore x y a b = (x < a) ⊎ ((x ≡ a) × (y < b))

-- (a, b) is the first pair of which P holds
pub record IsFirstPair (P : ℕ → ℕ → Type 0) (a b : ℕ) : Type 0 where
  pub holds : P a b
  pub none_before : (x y : ℕ) → IsBefore x y a b → P x y → ⊥

-- a and b are the two lowest numbers of which P holds
pub record AreFirstTwo (P : ℕ → Type 0) (a b : ℕ) : Type 0 where
  pub one : P a
  pub other : P b
  pub less : a < b
  pub no_more : (x : ℕ) → x < b → P x → x ≡ a

-- ---- each fault

-- two types have a common subtype, and no least one
pub record LacksJoin (d : Declared) (a b : ℕ) : Type 0 where
  pub common : ℕ
  pub left : IsAbove d a common
  pub right : IsAbove d b common
  pub inside : common < length d.types
  pub none : (j : ℕ) → IsJoin d a b j → ⊥

-- c is a common subtype of a and b, and no other one is more general
pub record IsMostGeneralCommon (d : Declared) (a b c : ℕ) : Type 0 where
  pub left : IsAbove d a c
  pub right : IsAbove d b c
  pub inside : c < length d.types
  pub most_general : (e : ℕ) → IsAbove d a e → IsAbove d b e → IsAbove d e c → e ≡ c

-- the type mentions the feature
pub record Mentions (d : Declared) (f t : ℕ) : Type 0 where
  pub mention : Mention
  pub listed : Has d.mentions mention
  pub feature : mention.feature ≡ f
  pub at : mention.at ≡ t

-- no type introduces the feature
pub record LacksIntro (d : Declared) (f : ℕ) : Type 0 where
  pub inside : f < length d.features
  pub none : (t : ℕ) → Introduces d f t → ⊥

-- t mentions the feature, and no other type that does is more general
pub record IsMostGeneralMention (d : Declared) (f t : ℕ) : Type 0 where
  pub mentions : Mentions d f t
  pub most_general : (u : ℕ) → Mentions d f u → IsAbove d u t → u ≡ t

-- restrictions on the feature apply at the type, and have no join
pub record Clashes (d : Declared) (t f : ℕ) : Type 0 where
  pub mention : Mention
  pub applies : Applies d f t mention
  pub none : (r : ℕ) → IsRestriction d f t r → ⊥

-- the type is extensional, and another is below it
pub record IsNotMaximal (d : Declared) (t : ℕ) : Type 0 where
  pub listed : Has d.ext t
  pub other : ℕ
  pub above : IsAbove d t other
  pub apart : t ≢ other

-- what fills the features of the type has too many nodes
pub record IsTooLarge (d : Declared) (t : ℕ) : Type 0 where
  pub inside : t < length d.types
  pub large : most_nodes < size d t

-- ---- that none of the parts up to one has a fault

pub record KeepsLimits (d : Declared) : Type 0 where
  pub few_types : length d.types ≤ most_types
  pub few_features : length d.features ≤ most_features

pub record IsAcyclic (d : Declared) : Type 0 where
  pub limits : KeepsLimits d
  pub no_cycle : (t : ℕ) → Leads d.edges t t → ⊥

pub record IsJoined (d : Declared) : Type 0 where
  pub acyclic : IsAcyclic d
  pub joins : (a b : ℕ) → LacksJoin d a b → ⊥

pub record IsIntroduced (d : Declared) : Type 0 where
  pub joined : IsJoined d
  pub intros : (f : ℕ) → LacksIntro d f → ⊥

pub record IsRestricted (d : Declared) : Type 0 where
  pub introduced : IsIntroduced d
  pub no_clash : (t f : ℕ) → Clashes d t f → ⊥

pub record IsLoopless (d : Declared) : Type 0 where
  pub restricted : IsRestricted d
  pub no_loop : (t : ℕ) → Leads (restriction_edges d) t t → ⊥

pub record IsExtLast (d : Declared) : Type 0 where
  pub loopless : IsLoopless d
  pub ext_last : (t : ℕ) → IsNotMaximal d t → ⊥

-- ---- the fault of a signature

-- Its part is at fault, no earlier part is, and these types and features are the first that show it.
abbrev pub IsFault : Declared → Fault → Type 0
IsFault d TooManyTypes = most_types < length d.types
IsFault d TooManyFeatures = (length d.types ≤ most_types) × (most_features < length d.features)
IsFault d (SubCycle t) = KeepsLimits d × IsFirst (λ t. Leads d.edges t t) t
IsFault d (NoJoin a b c e) = IsAcyclic d × IsFirstPair (LacksJoin d) a b × AreFirstTwo (IsMostGeneralCommon d a b) c e
IsFault d (TwoIntros f a b) = IsJoined d × IsFirst (LacksIntro d) f × AreFirstTwo (IsMostGeneralMention d f) a b
IsFault d (ValueClash t f) = IsIntroduced d × IsFirstPair (Clashes d) t f
IsFault d (Loop t) = IsRestricted d × IsFirst (λ t. Leads (restriction_edges d) t t) t
IsFault d (ExtNotMaximal t) = IsLoopless d × IsFirst (IsNotMaximal d) t
IsFault d (FillTooLarge t) = IsExtLast d × IsFirst (IsTooLarge d) t

-- a fault by the names of what shows it
abbrev pub named_fault : Declared → Fault → SigError
named_fault d TooManyTypes = refusal.TooManyTypes
named_fault d TooManyFeatures = refusal.TooManyFeatures
named_fault d (SubCycle t) = refusal.SubCycle (name_of d.types t)
named_fault d (NoJoin a b c e) = refusal.NoJoin (name_of d.types a) (name_of d.types b) (name_of d.types c) (name_of d.types e)
named_fault d (TwoIntros f a b) = refusal.TwoIntros (name_of d.features f) (name_of d.types a) (name_of d.types b)
named_fault d (ValueClash t f) = refusal.ValueClash (name_of d.types t) (name_of d.features f)
named_fault d (Loop t) = refusal.Loop (name_of d.types t)
named_fault d (ExtNotMaximal t) = refusal.ExtNotMaximal (name_of d.types t)
named_fault d (FillTooLarge t) = refusal.FillTooLarge (name_of d.types t)

-- The refusal is that of the fault that is found, by its names, unless memory ran out.
abbrev pub RefusesFor : Declared → Option Fault → SigError → Type 0
RefusesFor d found e = (e ≡ refusal.NoMemory → ⊥) → (f : Fault) × (found ≡ Some f) × (e ≡ named_fault d f)

-- The refusal that is owed: the fault that the signature has, by its names.
abbrev pub IsRefusal : Declared → SigError → Type 0
IsRefusal d refusal.TooManyTypes = IsFault d TooManyTypes
IsRefusal d refusal.TooManyFeatures = IsFault d TooManyFeatures
IsRefusal d (refusal.SubCycle x) = (t : ℕ) × (x ≡ name_of d.types t) × IsFault d (SubCycle t)
IsRefusal d (refusal.NoJoin x y z w) = (a b c e : ℕ) × (x ≡ name_of d.types a) × (y ≡ name_of d.types b) × (z ≡ name_of d.types c) × (w ≡ name_of d.types e) × IsFault d (NoJoin a b c e)
IsRefusal d (refusal.TwoIntros x y z) = (f a b : ℕ) × (x ≡ name_of d.features f) × (y ≡ name_of d.types a) × (z ≡ name_of d.types b) × IsFault d (TwoIntros f a b)
IsRefusal d (refusal.ValueClash x y) = (t f : ℕ) × (x ≡ name_of d.types t) × (y ≡ name_of d.features f) × IsFault d (ValueClash t f)
IsRefusal d (refusal.Loop x) = (t : ℕ) × (x ≡ name_of d.types t) × IsFault d (Loop t)
IsRefusal d (refusal.ExtNotMaximal x) = (t : ℕ) × (x ≡ name_of d.types t) × IsFault d (ExtNotMaximal t)
IsRefusal d (refusal.FillTooLarge x) = (t : ℕ) × (x ≡ name_of d.types t) × IsFault d (FillTooLarge t)
IsRefusal d refusal.NoMemory = ⊥

-- The declarations are refused by e exactly where P holds, unless memory runs out.
abbrev pub RefusesWhere : Result Declared SigError → SigError → Type 0 → Type 0
RefusesWhere result e P = (IsErrOf result refusal.NoMemory → ⊥) → IsErrOf result e ↔ P
