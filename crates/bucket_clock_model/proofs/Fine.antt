-- No test fails: a machine that has come through any list of cycles passes D2 to D5 at every stage.
use Rattle.laws.specs.Prelude.{Element, List, ◌+◌, ◌^◌, ◌≡◌, ◌≤◌, arith, length, subst, suc, sym, zero, ℕ}
use Rattle.bucket_model.proofs.Laws.{insert-length}
use Rattle.bucket_model.specs.declared.Lay.{Lay}
use Rattle.bucket_model.specs.Prelude.{Sorted, Storey, storey}
use Rattle.bucket_clock_model.specs.Damage.{BucketFit, NewFit, StagesFit}
use Rattle.std.specs.Prelude.{Option}
use Rattle.std.specs.Prelude.{None, Some}
use Rattle.bucket_clock_model.specs.declared.Waiting.{Waiting}
use Rattle.bucket_clock_model.specs.Desk.{Desk, floor_of, waiting}
use Rattle.bucket_clock_model.specs.Lists.{done, left, newcomer, placed, takes}
use Rattle.bucket_clock_model.specs.Pipe.{fewer, Fit, found, lead, Pipe, Shows, under}
use Rattle.bucket_clock_model.specs.Words.{Floor, take_if}
use Rattle.bucket_clock_model.proofs.Counts.{many-le}
use Rattle.bucket_clock_model.proofs.Last.{last_of}
use Rattle.bucket_clock_model.proofs.Storey.{below-take}
use Rattle.bucket_clock_model.proofs.Words.{Tallied}
use Rattle.bucket_clock_model.proofs.Worked.{Found, found_at, inside, inside_one, InsideOne, newcomer-in, put_fit, Stands, Within}

module _ (k : Lay) (S : ℕ) (there : k.ranks ≡ 64 ^ S) where
  -- a newcomer passes, where the list it joins has room
  new-fit : (p : Storey) (d : ℕ) (x : Option Element) (l : List Element) (s : Floor) (g : ℕ → ℕ) → Tallied p s g → ((j : ℕ) → g j ≤ length l) → InsideOne p d x → Within S (placed x l) → length (placed x l) ≤ k.nodes → NewFit k p d x s
  new-fit p d None l s g t most one near few = tt
  new-fit p d (Some x) l s g t most one near few =
      (omega (arith, newcomer-in S x l near, there), put_fit p d s g t k.nodes (lead d x.rank.0) one (omega (arith, most (lead d x.rank.0), insert-length x l)))

  pub fits : (d e : ℕ) → e + d ≡ S → (g : Waiting) (m : Desk) (P : Pipe d) (ago : ℕ → List Element) (v : List (Option Element))
      → Sorted (ago 0) → Fit d (takes g.does) g.way (ago 0) → Shows d P ago v → ((i : ℕ) → Within S (ago i)) → Within S (done g.does (ago 0))
      → ((i : ℕ) → length (ago i) ≤ k.nodes) → length (done g.does (ago 0)) ≤ k.nodes → Stands k e d m P
      → BucketFit k (last_of d g P).does (last_of d g P).way m.words → StagesFit k e d g m
  fits zero e e_s g m P ago v so f h near new few one st last = last
  fits (suc d) e e_s g m P ago v so f h near new few one st last =
      let o : ℕ = k.bits in
      let c : ℕ → ℕ = P.0.counts in
      let b = takes g.does in
      let F : Found (storey k.bits e) d (floor_of m) c st.0 g.way (takes g.does) = found_at (storey k.bits e) d (floor_of m) c st.0 (ago 0) so h.counts (inside o e d S (ago 0) e_s (near 0)) g.way (takes g.does) f in
      let c1 : ℕ → ℕ = fewer (takes g.does) (found (takes g.does) c g.way) c in
      let most1 : (j : ℕ) → c1 j ≤ length (left (takes g.does) (ago 0)) =
      λ j. omega (arith, below-take d g.way (takes g.does) c (ago 0) so h.counts f j, many-le (under d j) (left (takes g.does) (ago 0))) in
      let most : (j : ℕ) → c j ≤ k.nodes = λ j. omega (arith, h.counts j, many-le (under d j) (ago 0), few 0) in (
        (
          F.fit k.nodes most,
          new-fit (storey k.bits e) d (newcomer g.does) (left (takes g.does) (ago 0)) (take_if (storey k.bits e) (takes g.does) g.way (floor_of m)) c1 F.tallied most1
              (inside_one o e d S (newcomer g.does) (left (takes g.does) (ago 0)) e_s new) new one,
        ),
        subst (λ (u : Waiting). StagesFit k (suc e) d u m) (sym st.1)
            (fits d (suc e) (omega arith) (waiting P.0.does P.0.way) m P.1 (λ i. ago (suc i)) h.older h.sorted h.fit h.rest (λ i. near (suc i)) (subst (Within S) h.is (near 0)) (λ i. few (suc i))
            (subst (λ (l : List Element). length l ≤ k.nodes) h.is (few 0)) st.2 last),
      )
