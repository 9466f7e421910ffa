use Rattle.std.proofs.Common.{◌≡◌, ℕ, ◌+◌, ◌<◌, ◌≤◌, ◌⊎◌, bit_or, length, get_or}
use Rattle.ale_relation.proofs.rows.join_words.Given as goal

abbrev pub invariant-loop-k : goal.invariant-loop-k
invariant-loop-k l = record {
  len : length l.words.items ≡ length l.fn.words.items;
  joined : (j : ℕ) → j < l.k → get_or l.words.items (l.to + j) 0 ≡ bit_or (get_or l.fn.words.items (l.to + j) 0) (get_or l.fn.words.items (l.from + j) 0);
  others : (j : ℕ) → (j < l.to) ⊎ (l.to + l.k ≤ j) → get_or l.words.items j 0 ≡ get_or l.fn.words.items j 0;
}
