-- What is promised of the check and the mender is said in these words: 02's sentence as a fact, slots by level, node and place, and what passes on.
use Rattle.std.specs.Prelude.{◌%◌, ◌&&◌, ◌*◌, ◌+◌, ◌/◌, ◌<◌, ◌^◌, ◌∷◌, ◌≡◌, ◌⊎◌, None, Ok}
use Rattle.laws.specs.Prelude.{All, Answer, Any, BadShape, Bool, Element, Iff, Ladder, List, Push, Refusal, Replace, Request, Zeros, [], count_number, count_of, false, fine, get_or, length, map, not, number_of, rung, suc, sum_to, true, untagged, zero, ℕ}
use Rattle.promise.specs.Prelude.{Least, Tagged, Untagged, all_brought, all_given, always, answers, leaves}
use Rattle.tree_model.specs.Prelude.{Damage, Levels, PopThenPush, Shape, Sound, called, four_words, held_count, level_at, levels_of, room, slot_at, stored_count, sum_counts, tree_of, tree_queue}
use Rattle.tree_model.specs.declared.Slot.{Slot}
use Rattle.tree_mend_model.specs.Check.{broken_at, checked, inner_of}

-- ---- 02's sentence, part by part
-- "A slot with a count not 0 is broken if that count isn't one plus the counts of the node under it, or if its rank is below that of the slot above it; a
-- slot with count 0, if another of its words is not 0 or a count under it is not 0"
abbrev pub SlotBroken : ℕ → List Slot → Slot → Type 0
SlotBroken r under s =
    ((s.count ≡ 0 → ⊥) × ((s.count ≡ suc (sum_counts under) → ⊥) ⊎ (s.element.rank.0 < r)))
    ⊎ ((s.count ≡ 0) × ((Zeros s.element → ⊥) ⊎ Any (λ u. u.count ≡ 0 → ⊥) under))

-- ---- by level, node and place: slot j of node n of level i of k levels, the topmost is 0
abbrev pub slot_in : (k : ℕ) → Levels k → ℕ → ℕ → ℕ → Slot
slot_in k ls i n j = slot_at (get_or (level_at k ls i) n []) j

-- "Slot j of node n has below it node n_m+j of the next level": under it, nothing where its level is the last ..
abbrev pub under_in : ℕ → (k : ℕ) → Levels k → ℕ → ℕ → ℕ → List Slot
under_in m k ls i n j = get_or (level_at k ls (suc i)) (n * m + j) []

-- .. and above node n, no rank where it is the root
abbrev pub rank_over : ℕ → (k : ℕ) → Levels k → ℕ → ℕ → ℕ
rank_over m k ls zero n = 0
rank_over m k ls (suc i) n = (slot_in k ls i (n / m) (n % m)).element.rank.0

abbrev pub BrokenIn : ℕ → (k : ℕ) → Levels k → ℕ → ℕ → ℕ → Type 0
BrokenIn m k ls i n j = SlotBroken (rank_over m k ls i n) (under_in m k ls i n j) (slot_in k ls i n j)

-- where slot p stands: "level by level, node by node"
pub record Place (m levels p : ℕ) : Type 0 where
  pub level : ℕ
  pub node : ℕ
  pub slot : ℕ
  pub in-levels : level < levels
  pub in-level : node < m ^ level
  pub in-node : slot < m
  pub is : p ≡ sum_to level (λ a. m ^ suc a) + node * m + slot

-- ---- the check
-- slot p of the slice is broken
abbrev pub broken_slot : ℕ → ℕ → List ℕ → ℕ → Bool
broken_slot m levels ws p = broken_at m (inner_of m levels) ws p

-- YES: no slot of the store is broken
abbrev pub NoneBroken : ℕ → ℕ → List ℕ → Type 0
NoneBroken m levels ws = (p : ℕ) → p < room m levels → broken_slot m levels ws p ≡ false

-- FIRST: slot p is broken, and none before it
pub record FirstBroken (m levels : ℕ) (ws : List ℕ) (p : ℕ) : Type 0 where
  pub inside : p < room m levels
  pub here : broken_slot m levels ws p ≡ true
  pub none : (q : ℕ) → q < p → broken_slot m levels ws q ≡ false

-- the table of the check, and that of the mender: "Refusal 1 holds for either store"
abbrev pub check_refusals : ℕ → ℕ → List ℕ → Ladder Refusal
check_refusals m levels ws = rung BadShape (Shape m levels (length ws)) fine

abbrev pub mend_refusals : ℕ → ℕ → List ℕ → List ℕ → Ladder Refusal
mend_refusals m levels ws to = rung BadShape (Shape m levels (length ws) × Shape m levels (length to)) fine

-- ---- FROM A STORE THAT PASSES ON, whatever wrote it, as from a cleared one: over any list of requests rs, every promise of demand 2
module _ (m levels : ℕ) (ws : List ℕ) (rs : List Request) where
  -- what the requests leave, and what they are answered
  abbrev pub then : List ℕ
  then = leaves (tree_queue m levels) rs ws

  abbrev pub said_from : List Answer
  said_from = answers (tree_queue m levels) rs ws

  pub record Onward : Type 0 where
    pub passes : checked m levels then ≡ Ok None
    pub sound : Sound m levels (tree_of m levels (levels_of m levels then 0 1) 0)
    pub undamaged : (r : Request) → Damage m levels r then → ⊥
    pub numbers : (r : Request) → let n = number_of (called m levels r then).answer in (n ≡ 0) ⊎ (n ≡ 5) ⊎ (n ≡ 6) ⊎ (n ≡ 7)
    -- what was stored and went in is what is stored and came out
    pub holds : (f : Element → Bool) → stored_count (room m levels) then f + all_given rs said_from f ≡ stored_count (room m levels) ws f + all_brought rs said_from f
    pub least : (r : Request) → Least (stored_count (room m levels) then) r (called m levels r then).answer
    pub replaces : (x : Element) → (Untagged (Replace x) → ⊥) → PopThenPush m levels x then
    pub held : (count_number (held_count m levels then) ≡ 0) × (count_of (held_count m levels then) ≡ stored_count (room m levels) then always)
    -- the check does not look at tags: where no element without one was stored, none is and none has come out
    pub tagged : stored_count (room m levels) ws untagged ≡ 0 → Tagged (stored_count (room m levels) then) rs said_from

-- ---- "pushes into it, in slice order, every slot with a count not 0 .. A slot with tag 0 is skipped"
-- each is before all that come after it
abbrev pub Rising : List ℕ → Type 0
Rising [] = Unit {0}
Rising (p ∷ l) = All (λ q. p < q) l × Rising l

-- so a list of requests takes over the first n slots of the words: it is the pushes of the elements of slots of the slice, in rising order of their numbers, and a slot is among them exactly if
-- its count is not 0 and its tag is not 0
pub record InSliceOrder (ws : List ℕ) (n : ℕ) (rs : List Request) : Type 0 where
  pub slots : List ℕ
  pub pushed : rs ≡ map (λ (p : ℕ). Push (four_words ws p).element) slots
  pub rising : Rising slots
  pub these : (p : ℕ) → Iff (Any (λ q. q ≡ p) slots) ((p < n) × ((four_words ws p).count ≡ 0 → ⊥) × ((four_words ws p).element.tag.0 ≡ 0 → ⊥))

-- ---- tests on elements: those that the mender takes over, and those that it skips
abbrev pub with_tag : (Element → Bool) → Element → Bool
with_tag f e = f e && not (untagged e)

abbrev pub without_tag : (Element → Bool) → Element → Bool
without_tag f e = f e && untagged e
