-- The last stage on the words, behind all storeys: from cycle to cycle heads, tails, nodes and free link are, word for word, those of the store of one
-- at a time S cycles ago.
use Rattle.laws.specs.Prelude.{Element, List, Request, ◌∙◌, ◌≡◌, ap, length, refl, subst, suc, sym, zero, ℕ}
use mathlib.Core.Path.{fun_ext}
use Rattle.bucket_model.proofs.Laws.{Holds}
use Rattle.bucket_model.specs.declared.Lay.{Lay}
use Rattle.bucket_model.specs.Prelude.{Laid, Store, asked, store}
use Rattle.bucket_clock_model.specs.Clock.{number_at}
use Rattle.bucket_clock_model.specs.Damage.{BucketFit}
use Rattle.bucket_clock_model.specs.Links.{bucket_leaves, bucket_stage}
use Rattle.std.specs.Prelude.{Option}
use Rattle.bucket_clock_model.specs.declared.Waiting.{Waiting}
use Rattle.bucket_clock_model.specs.Desk.{waiting}
use Rattle.bucket_clock_model.specs.Lists.{takes}
use Rattle.bucket_clock_model.specs.Pipe.{Pipe, piped, Shows}
use Rattle.bucket_clock_model.proofs.Buckets.{head-is}
use Rattle.bucket_clock_model.proofs.Links.{But}
use Rattle.bucket_clock_model.proofs.Stage.{stage-but, stage-fit, stage-leaves}

-- the store that a request leaves, one at a time
abbrev pub next_store : Lay → Request → Store → Store
next_store k q s = store (asked k q s).bits (asked k q s).words

abbrev pub after_store : Store → (ℕ → Store) → ℕ → Store
after_store s was zero = s
after_store s was (suc i) = was i

-- what the bucket stage works at, where g is handed to the first
abbrev pub last_of : (d : ℕ) → Waiting → Pipe d → Waiting
last_of zero g P = g
last_of (suc d) g P = last_of d (waiting P.0.does P.0.way) P.1

module _ (k : Lay) (laid : Laid k) where
  -- the stores of one at a time: `was i` is that of i cycles ago, and what is pending behind stage i + 1 led from `was (i + 1)` to `was i`, accepted
  abbrev pub Linked : (d : ℕ) → Pipe d → (ℕ → Store) → (ℕ → List Element) → Type 0
  Linked zero P was ago = Unit {0}
  Linked (suc d) P was ago =
      (was 0 ≡ next_store k P.0.does (was 1)) × (number_at k.ranks k.nodes P.0.does (length (ago 1)) ≡ 0) × Linked d P.1 (λ i. was (suc i)) (λ i. ago (suc i))

  now-stores : (s : Store) (was : ℕ → Store) → was 0 ≡ s → after_store s (λ i. was (suc i)) ≡ was
  now-stores s was e = fun_ext at
    where
      at : (i : ℕ) → after_store s (λ i. was (suc i)) i ≡ was i
      at zero = sym e
      at (suc i) = refl

  -- a cycle later
  pub linked-next : (d : ℕ) (q : Request) (w : ℕ) (P : Pipe d) (was : ℕ → Store) (ago ago' : ℕ → List Element) → ((i : ℕ) → ago' (suc i) ≡ ago i) → number_at k.ranks k.nodes q (length (ago 0)) ≡ 0
      → Linked d P was ago → Linked d (piped d q w P).next (after_store (next_store k q (was 0)) was) ago'
  unfolding piped
  linked-next zero q w P was ago ago' e n h = tt
  linked-next (suc d) q w P was ago ago' e n h = (
    refl,
    ap (λ (l : List Element). number_at k.ranks k.nodes q (length l)) (e 0) ∙ n,
    subst (λ (x : ℕ → Store). Linked d (piped d P.0.does P.0.way P.1).next x (λ i. ago' (suc i))) (now-stores (next_store k P.0.does (was 1)) was h.0)
        (linked-next d P.0.does P.0.way P.1 (λ i. was (suc i)) (λ i. ago (suc i)) (λ i. ago' (suc i)) (λ i. e (suc i)) h.1 h.2),
  )

  -- LAST: where the words are those of S cycles ago, but for held, the bucket stage leaves those of the cycle after
  pub last-but : (d : ℕ) (g : Waiting) (P : Pipe (suc d)) (was : ℕ → Store) (ago : ℕ → List Element) (v : List (Option Element)) (w : List ℕ) → Linked (suc d) P was ago → Shows (suc d) P ago v
      → ((i : ℕ) → Holds k laid (was i).bits (was i).words (ago i)) → But k w (was (suc d)).words → But k (bucket_stage k (last_of (suc d) g P).does (last_of (suc d) g P).way w) (was d).words
  last-but zero g P was ago v w l h o c =
      subst (λ (s : Store). But k (bucket_stage k P.0.does P.0.way w) s.words) (sym l.0)
      (stage-but k laid (was 1).bits (was 1).words (ago 1) (o 1) w c P.0.does P.0.way l.1 h.fit)
  last-but (suc d) g P was ago v w l h o c = last-but d (waiting P.0.does P.0.way) P.1 (λ i. was (suc i)) (λ i. ago (suc i)) h.older w l.2 h.rest (λ i. o (suc i)) c

  -- .. its tests do not fail
  pub last_fit : (d : ℕ) (g : Waiting) (P : Pipe (suc d)) (was : ℕ → Store) (ago : ℕ → List Element) (v : List (Option Element)) (w : List ℕ) → Linked (suc d) P was ago → Shows (suc d) P ago v
      → ((i : ℕ) → Holds k laid (was i).bits (was i).words (ago i)) → But k w (was (suc d)).words → BucketFit k (last_of (suc d) g P).does (last_of (suc d) g P).way w
  last_fit zero g P was ago v w l h o c = stage-fit k laid (was 1).bits (was 1).words (ago 1) (o 1) w c P.0.does P.0.way l.1 h.fit
  last_fit (suc d) g P was ago v w l h o c = last_fit d (waiting P.0.does P.0.way) P.1 (λ i. was (suc i)) (λ i. ago (suc i)) h.older w l.2 h.rest (λ i. o (suc i)) c

  -- .. and what leaves the pipeline stands in the words
  pub last-leaves : (d : ℕ) (g : Waiting) (P : Pipe (suc d)) (was : ℕ → Store) (ago : ℕ → List Element) (v : List (Option Element)) (w : List ℕ) (q : Request) (r : ℕ) → Shows (suc d) P ago v
      → ((i : ℕ) → Holds k laid (was i).bits (was i).words (ago i)) → But k w (was (suc d)).words → bucket_leaves k (takes (last_of (suc d) g P).does) (last_of (suc d) g P).way w ≡ (piped (suc d) q r P).said
  unfolding piped
  last-leaves zero g P was ago v w q r h o c =
      stage-leaves k laid (was 1).bits (was 1).words (ago 1) (o 1) w c (takes P.0.does) P.0.way h.fit ∙ sym (head-is P.1 P.0.way (takes P.0.does) (ago 1) h.rest.0 h.fit)
  last-leaves (suc d) g P was ago v w q r h o c = last-leaves d (waiting P.0.does P.0.way) P.1 (λ i. was (suc i)) (λ i. ago (suc i)) h.older w P.0.does P.0.way h.rest (λ i. o (suc i)) c
