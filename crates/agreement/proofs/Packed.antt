-- The packed heap's ranks are the tree's: for any calls at one of its heaps that each takes from a cleared store, and in the midst of calls at the others; with refusals its
-- numbers and ranks are those of a plain list with room for 2^L − 1. Any number of heaps and levels.
use Rattle.laws.specs.Prelude.{Answer, Element, List, Pop, Replace, Request, [], ◌<◌, ◌∙◌, ◌≡◌, ap, length, map, not-suc-le-zero, number_of, rank_of, refl, suc, sym, zero, ℕ}
use Rattle.agreement.proofs.Agreement.{tree_plain, tree_said}
use Rattle.agreement.proofs.Ranks.{ranks-plain, ranks-plainly, same-empty, whole-empty}
use Rattle.agreement.proofs.Ruled.{ruled-number}
use Rattle.agreement.specs.Plain.{number_for, number_rank, plain, plainly, Taken}
use Rattle.packed_model.proofs.Alone.{alone}
use Rattle.packed_model.proofs.Exactly.{barred, kind}
use Rattle.packed_model.proofs.Promises.{call-sum, called-kept, is-queue, Kept, kept-answer, kept-least, kept-replaces, start-empty, start-kept}
use Rattle.packed_model.specs.Calls.{called}
use Rattle.packed_model.specs.Causes.{Shape}
use Rattle.packed_model.specs.Promise.{heap_queue, said, start, stored}
use Rattle.packed_model.specs.Words.{capacity, slot_in, word}
use Rattle.promise.specs.Forest.{At, heard_at, own_of}
use Rattle.promise.specs.Prelude.{always, answers}
use Rattle.tree_model.specs.Promise as tree-says

-- a replace that is taken is answered as a pop
packed-pop : (H k h : ℕ) → h < H → (x : Element) (ws : List ℕ) → Kept H k ws → number_of (called H (suc k) h (Replace x) ws).answer ≡ 0
    → (called H (suc k) h (Replace x) ws).answer ≡ (called H (suc k) h Pop ws).answer
packed-pop H k h is x ws kept e = (kept-replaces H k h is x (λ u. barred H (suc k) h (Replace x) ws u e) ws kept).answer

packed-number : (H k h : ℕ) → h < H → (r : Request) (ws : List ℕ) → Kept H k ws
    → number_of (heap_queue H (suc k) h r ws).said ≡ number_for (capacity (suc k)) r (stored H (suc k) h ws always)
packed-number H k h is r ws kept =
    ap number_of (kept-answer H k h is r ws kept) ∙ ruled-number (λ (q : Request). q) (capacity (suc k)) r (word ws h) (slot_in H ws h)
    ∙ ap (number_for (capacity (suc k)) r) ((is-queue H k h is).counts ws kept)

module _ (H levels h : ℕ) (ws : List ℕ) (rs : List Request) where
  -- what heap h answers from a cleared store
  abbrev pub packed_said : List Answer
  packed_said = answers (heap_queue H levels h) rs (start H levels ws)

module _ (h : ℕ) (ws : List ℕ) (rs : List Request) where
  pub packed-plain : (H levels : ℕ) (is : h < H) → Shape H levels (length ws) → Taken (packed_said H levels h ws rs) → map rank_of (packed_said H levels h ws rs) ≡ answers plain rs []
  packed-plain H zero is sh t = absurd (not-suc-le-zero sh.some)
  packed-plain H (suc k) is sh t =
      ranks-plain (heap_queue H (suc k) h) (Kept H k) (called-kept H k h is) (stored H (suc k) h) (call-sum H k h is) (kept-least H k h is) (packed-pop H k h is) (λ r ws. kind H (suc k) h r ws) rs
      (start H (suc k) ws) [] (start-kept H k ws sh) (same-empty _ _ _ _ _ _ _ _ _ (start-empty H k ws sh h is)) t

  pub packed-plainly : (H levels : ℕ) (is : h < H) → Shape H levels (length ws) → map number_rank (packed_said H levels h ws rs) ≡ answers (plainly (capacity levels)) rs []
  packed-plainly H zero is sh = absurd (not-suc-le-zero sh.some)
  packed-plainly H (suc k) is sh =
      ranks-plainly (heap_queue H (suc k) h) (Kept H k) (called-kept H k h is) (stored H (suc k) h) (call-sum H k h is) (kept-least H k h is) (packed-pop H k h is) (λ r ws. kind H (suc k) h r ws)
      (capacity (suc k)) (packed-number H k h is) rs (start H (suc k) ws) [] (start-kept H k ws sh) (whole-empty _ _ _ _ _ _ _ _ _ _ _ (start-empty H k ws sh h is))

  -- AGREEMENT
  pub packed-agreement : (H levels : ℕ) (is : h < H) (m levels' : ℕ) (ws' : List ℕ) → Shape H levels (length ws) → tree-says.Shape m levels' (length ws')
      → Taken (packed_said H levels h ws rs) → Taken (tree_said rs m levels' ws') → map rank_of (packed_said H levels h ws rs) ≡ map rank_of (tree_said rs m levels' ws')
  packed-agreement H levels is m levels' ws' sh sh' t t' = packed-plain H levels is sh t ∙ sym (tree_plain rs m levels' ws' sh' t')

-- in the midst of calls at all heaps: what heap h is answered is, number and rank, what a plain list answers its own calls
pub packed-midst : (H levels h : ℕ) → h < H → (ws : List ℕ) → Shape H levels (length ws) → (cs : List At)
    → map number_rank (heard_at h cs (said H levels cs ws)) ≡ answers (plainly (capacity levels)) (own_of h cs) []
packed-midst H levels h is ws sh cs =
    ap (map number_rank) (alone H levels h is cs (start H levels ws) (start H levels ws) (record { size = refl; held = refl; slots = refl })).0 ∙ packed-plainly h ws (own_of h cs) H levels is sh
