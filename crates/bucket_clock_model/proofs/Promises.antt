-- THE PROMISES (1) to (5), from a machine cleared on slices long enough, whatever was in them, over any list of cycles.
use Rattle.laws.specs.Prelude.{Element, Idle, List, Request, [], ◌*◌, ◌++◌, ◌+◌, ◌-◌, ◌<◌, ◌^◌, ◌∙◌, ◌∷◌, ◌≡◌, ◌≤◌, ap, arith, dec_lt, le-leb, length, map, not-suc-le-zero, refl, replicate, subst, suc, sym, zero, ℕ, ℕ_discrete, Result, Refusal, Ok}
use native.Mathlib.Decide.{dec_le}
use Rattle.bucket_model.proofs.Promises as one
use Rattle.bucket_model.proofs.Laws.{alone, calls, stored_is}
use Rattle.bucket_model.specs.Prelude.{Laid, Said, Store, answered, ask, bit_words, called, counted, held, held_count, plain_with, said_number, start, stored, storey, word, words_of}
use Rattle.bucket_model.specs.declared.Lay.{Lay}
use Rattle.bucket_model.specs.Plain as stores
use Rattle.promise.specs.Prelude.{leaves}
use Rattle.bucket_clock_model.specs.Clock.{history, out_of}
use Rattle.bucket_clock_model.specs.Damage.{DeskShaped}
use Rattle.std.specs.Prelude.{Option}
use Rattle.std.specs.Prelude.{None}
use Rattle.bucket_clock_model.specs.Desk.{clock_cleared, clock_held, Desk, floor_of, no_work, cycled, cycling, work_at}
use Rattle.bucket_clock_model.specs.Pipe.{below, counts_at, Pipe}
use Rattle.bucket_clock_model.specs.Promise.{Answers, BucketsAre, HeldExact, one_store, ran, rested, Settled, StoreyIs, Undamaged}
use Rattle.bucket_clock_model.proofs.Clear.{cleared-kept}
use Rattle.bucket_clock_model.proofs.Clock.{idles}
use Rattle.bucket_clock_model.proofs.Damage.{desk-means}
use Rattle.bucket_clock_model.proofs.Kept.{Kept, cycle-good}
use Rattle.bucket_clock_model.proofs.Last.{after_store}
use Rattle.bucket_clock_model.proofs.Pipe.{counts-at}
use Rattle.bucket_clock_model.proofs.Quiet.{idles-quiet}
use Rattle.bucket_clock_model.proofs.Runs.{Ran, runs}
use Rattle.bucket_clock_model.proofs.Same.{storey-same}
use Rattle.bucket_clock_model.proofs.Vault.{store-ago, store-append, store_at, store-now, store_history}
use Rattle.bucket_clock_model.proofs.Words.{Tallied}
use Rattle.bucket_clock_model.proofs.Worked.{Stands}

-- ---- what is read off a kept machine

module _ (k : Lay) (laid : Laid k) where
  stands_at : (e d : ℕ) (m : Desk) (P : Pipe d) → Stands k e d m P → (i n : ℕ) → i < d → n ≡ e + i → Tallied (storey k.bits n) (floor_of m) (counts_at d P i)
  stands_at e zero m P h i n l q = absurd (not-suc-le-zero l)
  stands_at e (suc d) m P h zero n l q = let p : n ≡ e = omega arith in rw p h.0
  stands_at e (suc d) m P h (suc i) n l q = stands_at (suc e) d m P.1 h.2 i n (omega arith) (omega arith)

  module _ (m : Desk) (was : ℕ → Store) (ago : ℕ → List Element) (v : List (Option Element)) (x : Kept k laid m was ago v) where
    abbrev S : ℕ
    S = k.storeys

    abbrev counts : ℕ → ℕ → ℕ
    counts n = counts_at k.storeys x.machine.pipe n

    counts-are : (n : ℕ) → n < S → (j : ℕ) → counts n j ≡ below (S - suc n) (ago n) j
    counts-are n l j = counts-at S x.machine.pipe ago v x.vault.runs.shows n j l

    tallied : (n : ℕ) → n < S → Tallied (storey k.bits n) (floor_of m) (counts n)
    tallied n l = stands_at 0 S m x.machine.pipe x.stands n n l (omega arith)

    -- a storey's bits are those of the store of as many cycles ago
    kept-bits : (n : ℕ) → n < S → (i : ℕ) → i < 64 ^ n → word m.bits (k.bits + words_of n + i) ≡ word (was n).bits (k.bits + words_of n + i)
    kept-bits n l i a = storey-same k laid (was n).bits (was n).words (ago n) (x.vault.holds n) n (S - suc n) (omega arith) (floor_of m) (counts n) (counts-are n l) (tallied n l) i a

    list-is : (n : ℕ) → stored k (was n).words ≡ ago n
    list-is n = stored_is k (alone k laid) 0 (was n).bits (was n).words (ago n) (x.vault.holds n)

    kept-counts : (n : ℕ) → n < S → (j : ℕ) → j < 64 * 64 ^ n → word m.counts (64 * (k.bits + words_of n) + j) ≡ below (S - suc n) (stored k (was n).words) j
    kept-counts n l j a = (tallied n l).count j a ∙ counts-are n l j ∙ ap (λ (y : List Element). below (S - suc n) y j) (sym (list-is n))

    kept-held : word m.words k.held ≡ word (was 0).words k.held
    kept-held = x.held ∙ x.vault.runs.held ∙ sym (x.vault.holds 0).held

    count_in : Said → Result ℕ Refusal
    count_in (answered a) = Ok 0
    count_in (counted c) = c

    held-exact : clock_held k m ≡ held_count k (was 0).bits (was 0).words
    unfolding clock_held called plain_with count_in
    held-exact =
        let few : word m.words k.held ≤ k.nodes = omega (arith, kept-held, (x.vault.holds 0).held, (x.vault.holds 0).room) in
        rw ((desk-means k m).holds x.shaped, le-leb (word m.words k.held) k.nodes few)
        (ap Ok (x.held ∙ x.vault.runs.held) ∙ sym (ap count_in (calls k laid (was 0) (ago 0) (x.vault.holds 0) held).alike))

  -- ---- through idle cycles the store of one at a time stands

  idle-stores : (n : ℕ) (was : ℕ → Store) (i : ℕ) → i ≤ n → store_history k laid (replicate n Idle) was i ≡ was 0
  unfolding store_history called stores.asked
  idle-stores zero was zero h = refl
  idle-stores zero was (suc i) h = absurd (omega arith)
  idle-stores (suc n) was i h = elim (dec_le i n) [
    | yes l ↦ idle-stores n (after_store (was 0) was) i l
    | no l ↦ let e : length (replicate n Idle) + 1 ≡ i = omega (arith, idles n) in (rw e at (store-ago k laid (replicate n Idle) (after_store (was 0) was) 1))
  ]

  leaves-append : (as' bs : List Request) (m : Desk) → leaves (cycling k) (as' ++ bs) m ≡ leaves (cycling k) bs (leaves (cycling k) as' m)
  unfolding leaves
  leaves-append [] bs m = refl
  leaves-append (a ∷ as') bs m = leaves-append as' bs (cycled k a m).desk

  -- a word of the bits is one of a storey
  in-storey : (S a : ℕ) → a < words_of S → (n : ℕ) × (n < S) × (words_of n ≤ a) × (a < words_of n + 64 ^ n)
  in-storey zero a h = absurd (not-suc-le-zero h)
  in-storey (suc d) a h = elim (dec_lt a (words_of d)) [
    | yes l ↦ let r = in-storey d a l in (r.0, omega (arith, r.1), r.2, r.3)
    | no l ↦ (d, omega arith, omega arith, h)
  ]

  module _ (m : Desk) (h : DeskShaped k m) where
    abbrev s : Store
    s = start k m.bits m.words

    through : (qs : List Request) → Ran k laid qs (clock_cleared k m).desk (λ i. s) (λ i. []) (replicate k.storeys None)
    through qs = runs k laid qs (clock_cleared k m).desk (λ i. s) (λ i. []) (replicate k.storeys None) (cleared-kept k laid m h)

    -- the kept machine after them, its stores and lists
    abbrev kept : (qs : List Request) → Kept k laid (ran k m qs) (store_history k laid qs (λ i. s)) (history k qs (λ i. [])) (through qs).later
    kept qs = (through qs).kept

    nones : (n : ℕ) → length {A = Option Element} (replicate n None) ≡ n
    nones zero = refl
    nones (suc n) = ap suc (nones n)

    -- (1), (2)
    pub answers-are : (qs : List Request) → Answers k m qs
    answers-are qs =
        let e = one.answers k laid m.bits m.words h.store (map ask qs) in
        let r = through qs in
        record {
          numbers = r.numbers ∙ ap (map said_number) (sym e);
          later = r.later;
          leaves = r.left ∙ ap (λ (ss : List Said). replicate k.storeys None ++ map out_of ss) (sym e);
          due = r.due ∙ nones k.storeys;
        }

    pub held-is-exact : (qs : List Request) → HeldExact k m qs
    held-is-exact qs =
        held-exact (ran k m qs) (store_history k laid qs (λ i. s)) (history k qs (λ i. [])) (through qs).later (kept qs)
        ∙ ap (λ (y : Store). held_count k y.bits y.words) (store-now k laid qs (λ i. s))

    -- (3)
    module _ (as' bs : List Request) where
      was-is : (n : ℕ) → length bs ≡ n → store_history k laid (as' ++ bs) (λ i. s) n ≡ one_store k m as'
      was-is n e = store_at k laid as' bs (λ i. s) n e

      pub storeys-are : length bs < k.storeys → StoreyIs k m as' bs
      storeys-are l =
          let x = kept (as' ++ bs) in
          let e = was-is (length bs) refl in
          record {
            bits = λ i a. kept-bits (ran k m (as' ++ bs)) _ _ _ x (length bs) l i a ∙ ap (λ (y : Store). word y.bits (k.bits + words_of (length bs) + i)) e;
            counts = λ j a. kept-counts (ran k m (as' ++ bs)) _ _ _ x (length bs) l j a ∙ ap (λ (y : Store). below (k.storeys - suc (length bs)) (stored k y.words) j) e;
          }

      pub buckets-are : length bs ≡ k.storeys → BucketsAre k m as' bs
      buckets-are l i n = (kept (as' ++ bs)).vault.but.words i n ∙ ap (λ (y : Store). word y.words i) (was-is k.storeys l)

    -- (4)
    module _ (qs : List Request) where
      abbrev more : List Request
      more = replicate k.storeys Idle

      stood : (n : ℕ) → n ≤ k.storeys → store_history k laid (qs ++ more) (λ i. s) n ≡ one_store k m qs
      stood n l = ap (λ (f : ℕ → Store). f n) (store-append k laid qs more (λ i. s)) ∙ idle-stores k.storeys (store_history k laid qs (λ i. s)) n l ∙ store-now k laid qs (λ i. s)

      all_words : (i : ℕ) → word (rested k m qs).words i ≡ word (one_store k m qs).words i
      all_words i = elim (ℕ_discrete i k.held) [
        | yes e ↦ ap (word (rested k m qs).words) e ∙ kept-held (rested k m qs) _ _ _ (kept (qs ++ more)) ∙ ap (λ (y : Store). word y.words k.held) (stood 0 (omega arith)) ∙ sym (ap (word (one_store k m qs).words) e)
        | no e ↦ (kept (qs ++ more)).vault.but.words i e ∙ ap (λ (y : Store). word y.words i) (stood k.storeys (omega arith))
      ]

      all-bits : (i : ℕ) → k.bits ≤ i → i < bit_words k → word (rested k m qs).bits i ≡ word (one_store k m qs).bits i
      all-bits i a b =
          let r = in-storey k.storeys (i - k.bits) (omega (arith, laid.tower)) in
          let n : ℕ = r.0 in
          let l : r.0 < k.storeys = r.1 in
          let e : k.bits + words_of r.0 + (i - k.bits - words_of r.0) ≡ i = omega (arith, r.2) in
          let y = kept-bits (rested k m qs) _ _ _ (kept (qs ++ more)) r.0 r.1 (i - k.bits - words_of r.0) (omega (arith, r.2, r.3)) in
          (rw e at y) ∙ ap (λ (y : Store). word y.bits i) (stood r.0 (omega (arith, r.1)))

      pub settled : Settled k (rested k m qs) (one_store k m qs)
      settled =
          record {
            bits = all-bits;
            words = all_words;
            counts = λ n j l a. kept-counts (rested k m qs) _ _ _ (kept (qs ++ more)) n l j a ∙ ap (λ (y : Store). below (k.storeys - suc n) (stored k y.words) j) (stood n (omega arith));
            nothing = λ i l.
                subst (λ (d : Desk). work_at d.records i ≡ no_work) (sym (leaves-append qs more (clock_cleared k m).desk))
                (idles-quiet k laid k.storeys 0 (ran k m qs) _ _ _ (kept qs) (λ j a b. absurd (not-suc-le-zero a)) i (omega arith) l);
          }

    -- (5)
    pub undamaged : (qs : List Request) → Undamaged k m qs
    undamaged qs = record { shaped = (kept qs).shaped; fit = λ q. cycle-good k laid q (ran k m qs) _ _ _ (kept qs) }
