-- A small signature: lists, signs with a content, and contents. No type has two types directly above it.
--     list sub [e_list, ne_list].  ne_list intro [hd:bot, tl:list].
--     sign sub [np, vp, s] intro [sem:content].  content sub [kim, walk].  ext([e_list]).
-- Source: this project's own.
use Rattle.std.specs.Prelude.{ℕ, ◌-◌, eqb, ltb, Bool, ◌&&◌, ◌||◌, Option, Some, None, List, [], ◌∷◌, map, get_or, length, if◌then◌else◌}
use Rattle.ale_declared.specs.Lists.{is_among, upto}
use Rattle.ale_hierarchy.specs.Hierarchy.{Hierarchy}
use Rattle.ale_logic.specs.Programs.{ListTypes}

-- the types and the features by name
abbrev pub bot : ℕ
bot = 0

abbrev pub list : ℕ
list = 1

abbrev pub e_list : ℕ
e_list = 2

abbrev pub ne_list : ℕ
ne_list = 3

abbrev pub sign : ℕ
sign = 4

abbrev pub np : ℕ
np = 5

abbrev pub vp : ℕ
vp = 6

abbrev pub s : ℕ
s = 7

abbrev pub content : ℕ
content = 8

abbrev pub kim : ℕ
kim = 9

abbrev pub walk : ℕ
walk = 10

abbrev pub hd : ℕ
hd = 0

abbrev pub tl : ℕ
tl = 1

abbrev pub sem : ℕ
sem = 2

-- the types above each type, itself among them
abbrev pub lines : List (List ℕ)
lines =
    (bot ∷ [])
    ∷ (bot ∷ list ∷ []) ∷ (bot ∷ list ∷ e_list ∷ []) ∷ (bot ∷ list ∷ ne_list ∷ [])
    ∷ (bot ∷ sign ∷ []) ∷ (bot ∷ sign ∷ np ∷ []) ∷ (bot ∷ sign ∷ vp ∷ []) ∷ (bot ∷ sign ∷ s ∷ [])
    ∷ (bot ∷ content ∷ []) ∷ (bot ∷ content ∷ kim ∷ []) ∷ (bot ∷ content ∷ walk ∷ [])
    ∷ []

abbrev pub above : ℕ → ℕ → Bool
above a b = eqb a b || is_among a (get_or lines b [])

-- the more specific of two types, where one is above the other
abbrev pub join : ℕ → ℕ → Option ℕ
join a b = if above a b && ltb b 11 then Some b else (if above b a && ltb a 11 then Some a else None)

-- the type that introduces each feature, and its restriction there
abbrev pub introduced : List (ℕ × ℕ)
introduced = (ne_list, bot) ∷ (ne_list, list) ∷ (sign, content) ∷ []

-- the restriction on each feature at each type
abbrev pub restriction : ℕ × ℕ → ℕ → Option ℕ
restriction i t = if above i.0 t then Some i.1 else None

abbrev pub restrictions : List (List (Option ℕ))
restrictions = map (λ i. map (restriction i) (upto 11)) introduced

-- how many nodes a node of each type has with all that is filled in below it
abbrev pub sizes : List ℕ
sizes = 1 ∷ 1 ∷ 1 ∷ 3 ∷ 2 ∷ 2 ∷ 2 ∷ 2 ∷ 1 ∷ 1 ∷ 1 ∷ []

abbrev pub sample : Hierarchy
sample = record {
  types = 11;
  features = 3;
  is_above = above;
  join = join;
  approp = λ f t. get_or (get_or restrictions f []) t None;
  intro = λ f. get_or (map (λ i. i.0) introduced) f bot;
  is_ext = λ t. eqb t e_list;
  rank = λ t. 11 - length (get_or lines t []);
  size = λ t. get_or sizes t 0;
}

abbrev pub list_types : ListTypes
list_types = record { e_list = e_list; ne_list = ne_list; hd = hd; tl = tl }
