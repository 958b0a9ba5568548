-- When a slot of a tree's store is broken (02 [11]), the first broken slot in slice order, and the same yes or no by descent.
-- Slots and nodes go by their numbers in the slice, from 0: node q begins with slot q * m, and the node under slot p is node suc p. That this is "Slot j of
-- node n has below it node n_m+j of the next level" is shown in proofs/Places.antt.
use Rattle.std.specs.Prelude.{◌&&◌, ◌*◌, ◌/◌, ◌||◌, Err, None, Ok, Option, Result, Some}
use Rattle.laws.specs.Prelude.{BadShape, Bool, List, Refusal, [], cond, eqb, false, length, ltb, not, pred, refusal_number, suc, true, zero, ℕ}
use Rattle.tree_model.specs.declared.Slot.{Slot}
use Rattle.tree_model.specs.Prelude.{every, is_blank, is_empty, node_of, room, shape_ok, slot_of, sum_counts}

-- ---- one slot
-- "A slot with a count not 0 is broken if that count isn't one plus the counts of the node under it, or if its rank is below that of the slot above it; a
-- slot with count 0, if another of its words is not 0 or a count under it is not 0". The sum is one of numbers without a bound. r is the rank of the slot
-- above, 0 where there is none: no rank is below 0. Under the last level there is nothing
unfoldable pub broken : ℕ → List Slot → Slot → Bool
broken r under s =
    cond (is_empty s)
    (not (is_blank s.element) || not (every is_empty under))
    (not (eqb s.count (suc (sum_counts under))) || ltb s.element.rank.0 r)

-- the rank of the slot above node q
unfoldable pub rank_above : List ℕ → ℕ → ℕ
rank_above ws zero = 0
rank_above ws (suc p) = (slot_of ws p).element.rank.0

-- the slots under slot p, where the first `inner` slots have a node under them
unfoldable pub under_at : ℕ → ℕ → List ℕ → ℕ → List Slot
under_at m inner ws p = cond (ltb p inner) (node_of m ws (suc p * m)) []

unfoldable pub broken_at : ℕ → ℕ → List ℕ → ℕ → Bool
broken_at m inner ws p = broken (rank_above ws (p / m)) (under_at m inner ws p) (slot_of ws p)

-- every slot but those of the last level has a node under it
abbrev pub inner_of : ℕ → ℕ → ℕ
inner_of m levels = room m (pred levels)

-- ---- the walk
-- the first of slot p and the n - 1 after it that passes the test
unfoldable pub walk : (ℕ → Bool) → ℕ → ℕ → Option ℕ
walk t p zero = None
walk t p (suc n) = cond (t p) (Some p) (walk t (suc p) n)

-- "A checker says yes exactly if no slot of the tree store is broken. .. Else it names the first broken slot in slice order": none for yes, or the slot's number; or a refusal
unfoldable pub checked : ℕ → ℕ → List ℕ → Result (Option ℕ) Refusal
checked m levels ws = cond (shape_ok m levels (length ws)) (Ok (walk (broken_at m (inner_of m levels) ws) 0 (room m levels))) (Err BadShape)

-- ---- the descent
-- the slots under slot p, with k levels below it
unfoldable pub under_of : ℕ → ℕ → List ℕ → ℕ → List Slot
under_of m zero ws p = []
under_of m (suc k) ws p = node_of m ws (suc p * m)

-- slot p and the n - 1 after it pass the test
unfoldable pub each : (ℕ → Bool) → ℕ → ℕ → Bool
each t p zero = true
each t p (suc n) = t p && each t (suc p) n

-- "The check of a node calls the check of its slots, and each slot that of the node under it". A slot by the check of the node under it: k levels below
-- slot p, under a slot of rank r
abbrev pub slot_by : (ℕ → ℕ → Bool) → ℕ → ℕ → List ℕ → ℕ → ℕ → Bool
slot_by node m k ws r p = not (broken r (under_of m k ws p) (slot_of ws p)) && node (suc p) (slot_of ws p).element.rank.0

-- k levels from node q on, under a slot of rank r
unfoldable pub node_whole : ℕ → ℕ → List ℕ → ℕ → ℕ → Bool
node_whole m zero ws q r = true
node_whole m (suc k) ws q r = each (slot_by (node_whole m k ws) m k ws r) (q * m) m

abbrev pub slot_whole : ℕ → ℕ → List ℕ → ℕ → ℕ → Bool
slot_whole m k ws r p = slot_by (node_whole m k ws) m k ws r p

-- "The bare yes or no also comes by descent"
unfoldable pub descended : ℕ → ℕ → List ℕ → Result Bool Refusal
descended m levels ws = cond (shape_ok m levels (length ws)) (Ok (node_whole m levels ws 0 0)) (Err BadShape)

-- the bare yes or no of a check
abbrev pub bare_of : Result (Option ℕ) Refusal → Result Bool Refusal
bare_of (Ok None) = Ok true
bare_of (Ok (Some p)) = Ok false
bare_of (Err r) = Err r

-- ---- 01's numbers: the refusal's, 0 where nothing is refused; 1 for yes; and the slot that is named, 0 where there is none
abbrev pub check_number : Result (Option ℕ) Refusal → ℕ
check_number (Ok p) = 0
check_number (Err r) = refusal_number r

abbrev pub check_yes : Result (Option ℕ) Refusal → ℕ
check_yes (Ok None) = 1
check_yes (Ok (Some p)) = 0
check_yes (Err r) = 0

abbrev pub check_slot : Result (Option ℕ) Refusal → ℕ
check_slot (Ok None) = 0
check_slot (Ok (Some p)) = p
check_slot (Err r) = 0

abbrev pub bare_number : Result Bool Refusal → ℕ
bare_number (Ok b) = 0
bare_number (Err r) = refusal_number r

abbrev pub bare_yes : Result Bool Refusal → ℕ
bare_yes (Ok true) = 1
bare_yes (Ok false) = 0
bare_yes (Err r) = 0
