-- A storey in flight is, word for word, that of the store of one at a time whose list it has counted.
use Rattle.laws.specs.Prelude.{Bool, Element, List, [], ◌++◌, ◌+◌, ◌<◌, ◌^◌, ◌∙◌, ◌∷◌, ◌≡◌, ◌≤◌, ap, arith, eq-eqb, length, ne_eqb, refl, suc, sym, zero, ℕ, ℕ_discrete}
use Rattle.bucket_model.proofs.Laws.{Holds, Node, Ranks, Tells, flag, loads, nz, ranks-ext, storey-ext, tells-same}
use Rattle.bucket_model.specs.declared.Lay.{Lay}
use Rattle.bucket_model.specs.Prelude.{Laid, Load, elements, head_at, in_order, storey, word, words_of}
use Rattle.promise.specs.Prelude.{hit}
use Rattle.bucket_clock_model.specs.Lists.{many}
use Rattle.bucket_clock_model.specs.Pipe.{below, lead, under}
use Rattle.bucket_clock_model.specs.Words.{Floor}
use Rattle.bucket_clock_model.proofs.Words.{storeys-tell, Tallied}

many-append : (f : Element → Bool) (xs ys : List Element) → many f (xs ++ ys) ≡ many f xs + many f ys
unfolding many
many-append f [] ys = omega arith
many-append f (x ∷ xs) ys = omega (arith, many-append f xs ys)

own_lane : (r : ℕ) (ts : List Load) → many (under 0 r) (elements r ts) ≡ length ts
unfolding many lead
own_lane r [] = refl
own_lane r (t ∷ ts) = omega (arith, ap hit (eq-eqb r r refl), own_lane r ts)

other-lane : (r i : ℕ) (ts : List Load) → (i ≡ r → ⊥) → many (under 0 r) (elements i ts) ≡ 0
unfolding many lead
other-lane r i [] e = refl
other-lane r i (t ∷ ts) e = omega (arith, ap hit (ne_eqb i r e), other-lane r i ts e)

past : (m : ℕ → List Load) (r i n : ℕ) → r < i → many (under 0 r) (in_order m i n) ≡ 0
unfolding in_order many
past m r i zero h = refl
past m r i (suc n) h = many-append (under 0 r) (elements i (m i)) (in_order m (suc i) n) ∙ omega (arith, other-lane r i (m i) (λ e. omega arith), past m r (suc i) n (omega arith))

-- as many of a rank as its bucket has
pub lane_count : (m : ℕ → List Load) (r i n : ℕ) → i ≤ r → r < i + n → many (under 0 r) (in_order m i n) ≡ length (m r)
unfolding in_order
lane_count m r i zero a b = absurd (omega arith)
lane_count m r i (suc n) a b = many-append (under 0 r) (elements i (m i)) (in_order m (suc i) n) ∙ go (ℕ_discrete i r) (λ c. lane_count m r (suc i) n c (omega arith))
  where
    go : Dec (i ≡ r) → (suc i ≤ r → many (under 0 r) (in_order m (suc i) n) ≡ length (m r)) → many (under 0 r) (elements i (m i)) + many (under 0 r) (in_order m (suc i) n) ≡ length (m r)
    go (yes e) ih = omega (arith, ap (λ (x : ℕ). many (under 0 r) (elements x (m x))) e, own_lane r (m r), past m r (suc i) n (omega arith))
    go (no e) ih = omega (arith, ih (omega arith), other-lane r i (m i) e)

flag-nz : (xs : List Node) → flag xs ≡ nz (length (loads xs))
flag-nz [] = refl
flag-nz (x ∷ xs) = refl

module _ (k : Lay) (laid : Laid k) (b w : List ℕ) (l : List Element) (h : Holds k laid b w l) where
  -- the lowest storey of one at a time tells which ranks are held
  pub ranks-below : Ranks k b (λ r. nz (below 0 l r))
  ranks-below = ranks-ext k laid b (λ r. flag (h.q (head_at k r))) (λ r. nz (below 0 l r)) same h.bits
    where
      same : (r : ℕ) → r < k.ranks → nz (below 0 l r) ≡ flag (h.q (head_at k r))
      same r a =
          ap (λ (m : List Element). nz (below 0 m r)) h.is
          ∙ ap nz (lane_count (λ r. loads (h.q (head_at k r))) r 0 k.ranks (omega arith) (omega arith))
          ∙ sym (flag-nz (h.q (head_at k r)))

  -- .. and so each storey above
  pub storey-below : (n d : ℕ) → k.storeys ≡ suc (d + n) → Tells b (k.bits + words_of n) (64 ^ n) (λ j. nz (below d l j))
  storey-below n d e = storeys-tell b k.bits n d k.storeys l e ranks-below.tower

  -- WORD FOR WORD: a storey whose counts are those of l has the very bits of the store that holds l
  pub storey-same : (n d : ℕ) → k.storeys ≡ suc (d + n) → (s : Floor) (g : ℕ → ℕ) → ((j : ℕ) → g j ≡ below d l j) → Tallied (storey k.bits n) s g
      → (i : ℕ) → i < 64 ^ n → word s.bits (k.bits + words_of n + i) ≡ word b (k.bits + words_of n + i)
  storey-same n d e s g c t i a =
      tells-same s.bits b (k.bits + words_of n) (64 ^ n) (λ j. nz (below d l j)) (storey-ext s.bits (k.bits + words_of n) (64 ^ n) (λ j. nz (g j)) (λ j. nz (below d l j)) (λ j _. sym (ap nz (c j))) t.tells) (storey-below n d e) i a
