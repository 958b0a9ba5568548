-- What holds of the packed heap's calls through C: each contract allows one outcome; a refusal answers zeros; each refusal is given exactly for its cause; and a size is the least length that the calls take.
use Rattle.laws.specs.Prelude.{Bool, Exactly, List, Pop, Push, Refusal, Replace, Request, ◌&&◌, ◌*◌, ◌+◌, ◌<◌, ◌∙◌, ◌≡◌, ◌≤◌, ap, arith, blank, cond, element, eqb, false, le-leb, leb, leb-true, length, ne_eqb, not, number_of, refl, refusal_number, subst, sym, true, ℕ}
use Rattle.card_packed.specs.Packed.{packed_clear, packed_held, packed_pop, packed_push, packed_replace, packed_words}
use Rattle.card_words.specs.Store.{StoreAfter, StoreAfterOut, store_after, store_after_out, store_answered, store_done}
use Rattle.card_words.proofs.Out.{told-zeros}
use Rattle.card_words.specs.Out.{answer_out, answer_words, bad_shape, count_after, CountAfter, refused_out, zeros}
use Rattle.packed_model.proofs.Exactly as model
use Rattle.packed_model.specs.Calls.{called, cleared, Outcome, shape_ok}
use Rattle.packed_model.specs.Promise.{clear_refusals, refusals}
use Rattle.packed_model.specs.Words.{capacity, extent}
use Rattle.promise.proofs.Handed.{exactly-as}
use Rattle.promise.specs.Prelude.{left}

-- ---- PINNED; n and k are two numbers returned, v and w two stores, x and y two `out`s
store : (o : StoreAfter) (n k : ℕ) (v w : List ℕ) → store_after n v ≡ o → store_after k w ≡ o → (n ≡ k) × (v ≡ w)
store o n k v w p q = (ap (λ (o : StoreAfter). o.number) (p ∙ sym q), ap (λ (o : StoreAfter). o.store) (p ∙ sym q))

store_out : (o : StoreAfterOut) (n k : ℕ) (v w x y : List ℕ) → store_after_out n v x ≡ o → store_after_out k w y ≡ o → (n ≡ k) × (v ≡ w) × (x ≡ y)
store_out o n k v w x y p q =
    (ap (λ (o : StoreAfterOut). o.number) (p ∙ sym q), ap (λ (o : StoreAfterOut). o.store) (p ∙ sym q), ap (λ (o : StoreAfterOut). o.out) (p ∙ sym q))

module _ (H levels : ℕ) (ws : List ℕ) (n k : ℕ) (v w : List ℕ) where
  pub pinned-packed-clear : store_after n v ≡ packed_clear H levels ws → store_after k w ≡ packed_clear H levels ws → (n ≡ k) × (v ≡ w)
  pinned-packed-clear p q = store (packed_clear H levels ws) n k v w p q

  module _ (h : ℕ) where
    pub pinned-packed-push : (rank tag bytes : ℕ) → store_after n v ≡ packed_push H levels h ws rank tag bytes → store_after k w ≡ packed_push H levels h ws rank tag bytes → (n ≡ k) × (v ≡ w)
    pinned-packed-push rank tag bytes p q = store (packed_push H levels h ws rank tag bytes) n k v w p q

    module _ (out x y : List ℕ) where
      pub pinned-packed-pop : store_after_out n v x ≡ packed_pop H levels h ws out → store_after_out k w y ≡ packed_pop H levels h ws out → (n ≡ k) × (v ≡ w) × (x ≡ y)
      pinned-packed-pop p q = store_out (packed_pop H levels h ws out) n k v w x y p q

      pub pinned-packed-replace : (rank tag bytes : ℕ) → store_after_out n v x ≡ packed_replace H levels h ws rank tag bytes out → store_after_out k w y ≡ packed_replace H levels h ws rank tag bytes out
          → (n ≡ k) × (v ≡ w) × (x ≡ y)
      pinned-packed-replace rank tag bytes p q = store_out (packed_replace H levels h ws rank tag bytes out) n k v w x y p q

pub pinned-packed-held : (H levels h : ℕ) (ws out : List ℕ) (n k : ℕ) (x y : List ℕ) → count_after n x ≡ packed_held H levels h ws out → count_after k y ≡ packed_held H levels h ws out → (n ≡ k) × (x ≡ y)
pinned-packed-held H levels h ws out n k x y p q = (ap (λ (o : CountAfter). o.number) (p ∙ sym q), ap (λ (o : CountAfter). o.out) (p ∙ sym q))

-- ---- ZEROS: a refused call answers zeros wherever `out` is long enough, and does not touch one that is too short
store-zeros : (o : Outcome) (ws out : List ℕ) → ((store_answered o ws out).number ≡ 0 → ⊥) → (store_answered o ws out).out ≡ refused_out answer_words out
unfolding store_answered
store-zeros o ws out h = go (leb answer_words (length out)) refl h
  where
    go : (b : Bool) → leb answer_words (length out) ≡ b → ((cond b (store_after_out (number_of o.answer) o.words (answer_out o.answer out)) (store_after_out bad_shape ws out)).number ≡ 0 → ⊥)
        → (cond b (store_after_out (number_of o.answer) o.words (answer_out o.answer out)) (store_after_out bad_shape ws out)).out ≡ refused_out answer_words out
    go true e h = told-zeros o.answer out true e h
    go false e h = told-zeros o.answer out false e h

module _ (H levels h : ℕ) (ws out : List ℕ) where
  pub zeros-packed-pop : ((packed_pop H levels h ws out).number ≡ 0 → ⊥) → (packed_pop H levels h ws out).out ≡ refused_out answer_words out
  zeros-packed-pop n = store-zeros _ ws out n

  pub zeros-packed-replace : (rank tag bytes : ℕ) → ((packed_replace H levels h ws rank tag bytes out).number ≡ 0 → ⊥) → (packed_replace H levels h ws rank tag bytes out).out ≡ refused_out answer_words out
  zeros-packed-replace rank tag bytes n = store-zeros _ ws out n

-- ---- EXACTLY: each number is returned exactly for its cause, and leaves every word, with zeros in an `out` that is lent
pub packed-exactly-clear : (H levels : ℕ) (ws : List ℕ) → Exactly (λ (o : StoreAfter). o.number) (λ n. store_after (refusal_number n) ws) (packed_clear H levels ws) (clear_refusals H levels ws)
packed-exactly-clear H levels ws =
    exactly-as (λ (o : Outcome). number_of o.answer) (left ws) store_done (λ (o : StoreAfter). o.number) (λ o. refl) (cleared H levels ws) (clear_refusals H levels ws) (model.exactly-clear H levels ws)

module _ (H levels h : ℕ) (ws : List ℕ) where
  pub packed-exactly-push : (rank tag bytes : ℕ) → Exactly (λ (o : StoreAfter). o.number) (λ n. store_after (refusal_number n) ws) (packed_push H levels h ws rank tag bytes) (refusals H levels h (Push (element rank tag bytes)) ws)
  packed-exactly-push rank tag bytes =
      exactly-as (λ (o : Outcome). number_of o.answer) (left ws) store_done (λ (o : StoreAfter). o.number) (λ o. refl) (called H levels h (Push (element rank tag bytes)) ws)
      (refusals H levels h (Push (element rank tag bytes)) ws) (model.exactly H levels h ws (Push (element rank tag bytes)))

  module _ (out : List ℕ) (room : answer_words ≤ length out) where
    answered : (r : Request) → Exactly (λ (o : StoreAfterOut). o.number) (λ n. store_after_out (refusal_number n) ws (zeros answer_words out)) (store_answered (called H levels h r ws) ws out) (refusals H levels h r ws)
    unfolding store_answered blank
    answered r =
        rw (le-leb answer_words (length out) room)
        (exactly-as (λ (o : Outcome). number_of o.answer) (left ws) (λ (o : Outcome). store_after_out (number_of o.answer) o.words (answer_out o.answer out)) (λ (o : StoreAfterOut). o.number) (λ o. refl)
        (called H levels h r ws) (refusals H levels h r ws) (model.exactly H levels h ws r))

    pub packed-exactly-pop : Exactly (λ (o : StoreAfterOut). o.number) (λ n. store_after_out (refusal_number n) ws (zeros answer_words out)) (packed_pop H levels h ws out) (refusals H levels h Pop ws)
    packed-exactly-pop = answered Pop

    pub packed-exactly-replace : (rank tag bytes : ℕ) → Exactly (λ (o : StoreAfterOut). o.number) (λ n. store_after_out (refusal_number n) ws (zeros answer_words out)) (packed_replace H levels h ws rank tag bytes out) (refusals H levels h (Replace (element rank tag bytes)) ws)
    packed-exactly-replace rank tag bytes = answered (Replace (element rank tag bytes))

-- ---- SIZES
few_words : (H levels : ℕ) → H ≤ 256 → H * capacity levels ≤ 131071 → extent H levels ≤ 393469
unfolding extent
few_words H levels a b = omega (arith, a, b)

some_words : (H levels : ℕ) → 1 ≤ H → extent H levels ≡ 0 → ⊥
unfolding extent
some_words H levels a z = omega (arith, a, z)

-- "A shorter slice is refused": a call takes the shape exactly if the size is not 0 and the slice is as long
pub packed-size : (H levels len : ℕ) → shape_ok H levels len ≡ (not (eqb (packed_words H levels) 0) && leb (packed_words H levels) len)
unfolding packed_words shape_ok
packed-size H levels len = go (leb 1 H) refl (leb H 256) refl (leb 1 levels) (leb (H * capacity levels) 131071) refl
  where
    x : ℕ
    x = extent H levels

    go : (a : Bool) → leb 1 H ≡ a → (b : Bool) → leb H 256 ≡ b → (c d : Bool) → leb (H * capacity levels) 131071 ≡ d
        → (a && (b && (c && (d && leb x len)))) ≡ (not (eqb (cond (a && (b && (c && (d && leb x 393469)))) x 0) 0) && leb (cond (a && (b && (c && (d && leb x 393469)))) x 0) len)
    go true p true q true true r =
        rw (le-leb x 393469 (few_words H levels (leb-true H 256 q) (leb-true (H * capacity levels) 131071 r)), ne_eqb x 0 (some_words H levels (leb-true 1 H p))) refl
    go true p true q true false r = refl
    go true p true q false d r = refl
    go true p false q c d r = refl
    go false p b q c d r = refl
