-- What is held in the middle of any work: what the list of one at a time has, and what has still to leave.
use Rattle.laws.specs.Prelude.{All, Bool, Element, List, [], ◌+◌, ◌<◌, ◌∙◌, ◌∷◌, ◌≡◌, ◌≤◌, ap, arith, cond, false, length, refl, suc, sym, true, zero, ℕ}
use Rattle.bucket_model.proofs.Laws.{Holds, Mine, Node, Seg, alone, chain_of, lane-le, loads, order-else, walks}
use Rattle.bucket_model.specs.declared.Lay.{Lay}
use Rattle.bucket_model.specs.Prelude.{Laid, Store, cell, head_at, lane, next_in, stored, times, word}
use Rattle.promise.specs.Prelude.{hit}
use Rattle.std.specs.Prelude.{Option}
use Rattle.bucket_clock_model.specs.declared.Waiting.{Waiting}
use Rattle.bucket_clock_model.specs.Desk.{Desk, work_at}
use Rattle.bucket_clock_model.specs.Lists.{at, coming, done, left, many, newcomer, taken, takes}
use Rattle.bucket_clock_model.specs.Pipe.{Pipe, Shows}
use Rattle.bucket_clock_model.specs.Promise.{carried, in_machine}
use Rattle.bucket_clock_model.proofs.Counts.{coming-end, left-many, placed-many}
use Rattle.bucket_clock_model.proofs.Kept.{Kept}
use Rattle.bucket_clock_model.proofs.Links.{But}
use Rattle.bucket_clock_model.proofs.Worked.{Stands}

-- ---- the buckets are read without the held count

module _ (k : Lay) (laid : Laid k) (w v : List ℕ) (c : But k w v) where
  cell_same : (l i : ℕ) → l ≤ k.nodes → i < 3 → word w (cell k.stem l i) ≡ word v (cell k.stem l i)
  cell_same l i a b = c.words (cell k.stem l i) (λ e. omega (arith, laid.pool, laid.held))

  seg_same : (own : ℕ → ℕ) (h p : ℕ) (xs : List Node) → word w p ≡ word v p → All (Mine own k.nodes h) xs → Seg k.stem v p xs → Seg k.stem w p xs
  seg_same own h p [] e m z = e ∙ z
  seg_same own h p (x ∷ xs) e m z = (
    e ∙ z.0,
    (λ i. record { tag = cell_same x.link 0 m.0.high (omega arith) i; length = cell_same x.link 1 m.0.high (omega arith) i }) ∙ z.1,
    seg_same own h (next_in k.stem x.link) xs (cell_same x.link 2 m.0.high (omega arith)) m.1 z.2,
  )

  pub stored-but : (b : List ℕ) (l : List Element) → Holds k laid b v l → stored k w ≡ l
  unfolding stored
  stored-but b l h = order-else (λ r. loads (h.q (head_at k r))) (lane k w) 0 k.ranks (λ j a d. lane-w j (omega arith)) ∙ sym h.is
    where
      lane-w : (r : ℕ) → r < k.ranks → lane k w r ≡ loads (h.q (head_at k r))
      lane-w r r< =
          let ch = chain_of k (alone k laid) 0 b v l h r r< in
          walks k.stem w k.nodes h.own (head_at k r) (head_at k r) k.nodes (h.q (head_at k r))
          (seg_same h.own (head_at k r) (head_at k r) (h.q (head_at k r)) (c.words (head_at k r) (λ e. omega (arith, laid.lists, laid.pool, laid.held))) ch.mine ch.seg) ch.mine
          (omega (arith, lane-le k (alone k laid) 0 b v l h r r<, h.room))

-- ---- counted either way

pub times-many : (f : Element → Bool) (l : List Element) → times f l ≡ many f l
unfolding times many
times-many f [] = refl
times-many f (x ∷ l) = go (f x) (times-many f l)
  where
    go : (b : Bool) → times f l ≡ many f l → cond b 1 0 + times f l ≡ hit b + many f l
    go true e = ap (λ (n : ℕ). 1 + n) e
    go false e = ap (λ (n : ℕ). 0 + n) e

-- ---- through the stages

module _ (k : Lay) (f : Element → Bool) where
  flow : (e d : ℕ) (m : Desk) (P : Pipe d) (ago : ℕ → List Element) (v : List (Option Element)) → Stands k e d m P → Shows d P ago v → many f (ago 0) + coming f v ≡ many f (ago d) + carried f d m.records e
  unfolding carried coming
  flow e zero m P ago v st h = ap (λ (w : List (Option Element)). many f (ago 0) + coming f w) h.1
  flow e (suc d) m P ago v st h =
      let q = P.0.does in
      let came : many f (ago 0) ≡ many f (done P.0.does (ago 1)) = ap (many f) h.is in
      let gone : coming f v ≡ coming f h.older + at f (taken (takes P.0.does) (ago 1)) = ap (coming f) h.way ∙ coming-end f h.older (taken (takes P.0.does) (ago 1)) in
      let new : at f (newcomer (work_at m.records e).does) ≡ at f (newcomer P.0.does) = ap (λ (u : Waiting). at f (newcomer u.does)) st.1 in
      omega (
        arith,
        placed-many f (newcomer P.0.does) (left (takes P.0.does) (ago 1)),
        left-many f (takes P.0.does) (ago 1),
        flow (suc e) d m P.1 (λ i. ago (suc i)) h.older st.2 h.rest,
      )

-- IN FLIGHT: nothing is lost and nothing made in the middle of any work
pub in-machine : (k : Lay) (laid : Laid k) (m : Desk) (was : ℕ → Store) (ago : ℕ → List Element) (v : List (Option Element)) → Kept k laid m was ago v → (f : Element → Bool) → in_machine k m f ≡ many f (ago 0) + coming f v
in-machine k laid m was ago v x f =
    let S = k.storeys in
    let b : stored k m.words ≡ ago k.storeys = stored-but k laid m.words (was k.storeys).words x.vault.but (was k.storeys).bits (ago k.storeys) (x.vault.holds k.storeys) in
    omega (arith, ap (times f) b, times-many f (ago k.storeys), flow k f 0 k.storeys m x.machine.pipe ago v x.stands x.vault.runs.shows)
