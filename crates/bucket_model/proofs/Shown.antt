-- "A bit is set exactly if something is held below it": on a store that the queue's own calls lead to, storey by storey.
use Rattle.laws.specs.Prelude.{Element, Iff, List, [], ◌%◌, ◌*◌, ◌+◌, ◌-◌, ◌/◌, ◌<◌, ◌^◌, ◌∙◌, ◌∷◌, ◌≡◌, ◌≤◌, ap, arith, length, pow-suc, refl, subst, suc, sym, zero, ℕ, ℕ_discrete}
use lib.Count.{count_trailing_zeros}
use Rattle.bitmap.specs.Bits.{bit_at}
use Rattle.bucket_model.specs.Prelude.{BitsTell, BitsTellThree, Grouped, Laid, Load, Occupied, Reached, Shows, Store, Storey, head_at, queue, storeys_at, storeys_from, word}
use Rattle.bucket_model.specs.Layout.{Lay}
use Rattle.bucket_model.proofs.Tells.{Tells, nz, nz-one, up, storey-down, storey-none}
use Rattle.bucket_model.proofs.Tower.{Tower, Bits, Shape, shape-from}
use Rattle.bucket_model.proofs.Chain.{Node}
use Rattle.bucket_model.proofs.Queue.{Seat, alone, HoldsIn, flag, loads, laid_of}
use Rattle.bucket_model.proofs.Runs.{lane-is}
use Rattle.bucket_model.proofs.Promises.{reached-holds}

-- a word is not 0 exactly if one of its bits is set
word-tells : (b : List ℕ) (base m : ℕ) (f : ℕ → ℕ) (P : ℕ → Type 0) → Tells b base m f → ((j : ℕ) → j < 64 * m → Iff (f j ≡ 1) (P j)) → (g : ℕ) → g < m
    → Iff (up b base g ≡ 1) ((u : ℕ) × (u < 64) × P (64 * g + u))
word-tells b base m f P z i g h = record { to = to; from = from }
  where
    some : up b base g ≡ 1 → 0 < word b (base + g)
    some e = elim (ℕ_discrete (word b (base + g)) 0) [ yes o ↦ absurd (none o) | no o ↦ omega arith ]
      where
        none : word b (base + g) ≡ 0 → ⊥
        none o = let c : nz (word b (base + g)) ≡ 0 = ap nz o in omega (arith, c, e)

    to : up b base g ≡ 1 → (u : ℕ) × (u < 64) × P (64 * g + u)
    to e =
        let d = storey-down b base m f g h (some e) z in
        let t = count_trailing_zeros 64 (word b (base + g)) in
        (t, d.within, (i (64 * g + t) (omega (arith, d.within))).to d.here)

    from : (u : ℕ) × (u < 64) × P (64 * g + u) → up b base g ≡ 1
    from x = elim (ℕ_discrete (word b (base + g)) 0) [
      | yes o ↦ absurd (omega (arith, storey-none b base m f g h o z x.0 x.1, (i (64 * g + x.0) (omega (arith, x.1))).from x.2))
      | no o ↦ nz-one (word b (base + g)) (omega arith)
    ]

-- a bit is set exactly if that is so which it tells of
bit-tells : (b : List ℕ) (base m : ℕ) (f : ℕ → ℕ) (P : ℕ → Type 0) → Tells b base m f → ((j : ℕ) → j < 64 * m → Iff (f j ≡ 1) (P j)) → (j : ℕ) → j < 64 * m → Iff (bit_at (word b (base + j / 64)) (j % 64) ≡ 1) (P j)
bit-tells b base m f P z i j l = record { to = λ e. (i j l).to (sym (z.bit j l) ∙ e); from = λ x. z.bit j l ∙ (i j l).from x }

-- from storey to storey
shows : (b : List ℕ) (ps : List Storey) (f : ℕ → ℕ) (P : ℕ → Type 0) → Shape ps → Tower b ps f → ((j : ℕ) → Bits ps j → Iff (f j ≡ 1) (P j)) → Shows b ps P
shows b [] f P s z i = tt
shows b (p ∷ []) f P s z i = (bit-tells b p.base p.words f P z.0 i, tt)
shows b (p ∷ v ∷ vs) f P s z i = (
  bit-tells b p.base p.words f P z.0 i,
  shows b (v ∷ vs) (up b p.base) (λ g. (u : ℕ) × (u < 64) × P (64 * g + u)) s.2 z.1 (λ g l. word-tells b p.base p.words f P z.0 i g (omega (arith, s.1))),
)

flag-loads : (xs : List Node) → Iff (flag xs ≡ 1) (loads xs ≡ [] → ⊥)
flag-loads [] = record { to = λ e. absurd (omega arith); from = λ n. absurd (n refl) }
flag-loads (x ∷ xs) = record { to = λ e n. let c : suc (length (loads xs)) ≡ 0 = ap length n in absurd (omega arith); from = λ n. refl }

module _ (k : Lay) (S : Seat k) (others : ℕ) (b w : List ℕ) (l : List Element) (h : HoldsIn k S others b w l) where
  held_by : (r : ℕ) → r < k.ranks → Iff (flag (h.q (head_at k r)) ≡ 1) (Occupied k w r)
  held_by r r< = subst (λ (ts : List Load). Iff (flag (h.q (head_at k r)) ≡ 1) (ts ≡ [] → ⊥)) (sym (lane-is k S others b w l h r r<)) (flag-loads (h.q (head_at k r)))

  -- whatever the number of storeys
  pub shown-in : Shows b (storeys_at k) (Occupied k w)
  shown-in = shows b (storeys_at k) (λ r. flag (h.q (head_at k r))) (Occupied k w) (shape-from k.bits k.storeys) h.bits.tower (λ j i. held_by j (within k.storeys S.laid.deep S.laid.ranks j i))
    where
      within : (d : ℕ) → 1 ≤ d → k.ranks ≡ 64 ^ d → (j : ℕ) → Bits (storeys_from k.bits d) j → j < k.ranks
      within zero a e j i = absurd (omega arith)
      within (suc d) a e j i = omega (arith, pow-suc 64 d)

-- SHOWN
pub shown : (k : Lay) (laid : Laid k) (s : Store) → Reached k s → Shows s.bits (storeys_at k) (Occupied k s.words)
shown k laid s r = let y = reached-holds k laid s r in shown-in k (alone k laid) 0 s.bits s.words y.0 y.2

-- ---- .. in 01's and 02's own numbers

module _ (k : Lay) (w : List ℕ) where
  -- the 64 ranks of a word, and the 64 words of a word above
  one_word : (g : ℕ) → Iff ((u : ℕ) × (u < 64) × Occupied k w (64 * g + u)) (Grouped k w 64 g)
  one_word g =
      record {
        to = λ x. (64 * g + x.0, omega arith, omega (arith, x.1), x.2);
        from = λ x. (x.0 - 64 * g, omega (arith, x.1, x.2), subst (Occupied k w) (omega (arith, x.1)) x.3);
      }

  two-words : (g : ℕ) → Iff ((v : ℕ) × (v < 64) × ((u : ℕ) × (u < 64) × Occupied k w (64 * (64 * g + v) + u))) (Grouped k w 4096 g)
  two-words g =
      record {
        to = λ x. (64 * (64 * g + x.0) + x.2.0, omega arith, omega (arith, x.1, x.2.1), x.2.2);
        from = λ x. ((x.0 - 4096 * g) / 64, omega (arith, x.1, x.2), ((x.0 - 4096 * g) % 64, omega arith, subst (Occupied k w) (omega (arith, x.1)) x.3));
      }

-- the top word has one word's bits
top_bit : (b : List ℕ) (g : ℕ) (P : Type 0) → g < 64 → Iff (bit_at (word b (0 + g / 64)) (g % 64) ≡ 1) P → Iff (bit_at (word b 0) g ≡ 1) P
top_bit b g P l i =
    let a : g / 64 ≡ 0 = omega arith in
    let c : g % 64 ≡ g = omega arith in
    rw (a, c) at i

and_then : {A B C : Type 0} → Iff A B → Iff B C → Iff A C
and_then p q = record { to = λ a. q.to (p.to a); from = λ c. p.from (q.from c) }

pub bits-tell : (n : ℕ) (s : Store) → Reached (queue 2 n) s → BitsTell n s
bits-tell n s r =
    let z = shown (queue 2 n) (laid_of 2 n (omega arith)) s r in
    record {
      rank = λ r l. z.0 r (omega arith);
      group = λ g l. top_bit s.bits g _ l (and_then (z.1.0 g (omega arith)) (one_word (queue 2 n) s.words g));
    }

pub bits-tell-three : (n : ℕ) (s : Store) → Reached (queue 3 n) s → BitsTellThree n s
bits-tell-three n s r =
    let z = shown (queue 3 n) (laid_of 3 n (omega arith)) s r in
    record {
      rank = λ r l. z.0 r (omega arith);
      middle = λ g l. and_then (z.1.0 g (omega arith)) (one_word (queue 3 n) s.words g);
      top = λ g l. top_bit s.bits g _ l (and_then (z.1.1.0 g (omega arith)) (two-words (queue 3 n) s.words g));
    }
