-- The limits of the cluster heap by their edges, in plain numbers: K, levels, capacity and words. The words are any that are long enough, so that K and the capacity decide. And the largest
-- capacity that there is.
use Rattle.laws.specs.Prelude.{BadShape, Bool, List, ◌*◌, ◌+◌, ◌-◌, ◌<◌, ◌≡◌, ◌≤◌, ap, arith, false, inl, length, ltb, ltb-false, ltb-true, number_of, refl, suc, true, zero, ℕ}
use native.Mathlib.Nat.{mul-add, mul-one}
use Rattle.promise.proofs.Calls.{said}
use Rattle.cluster_model.proofs.Damages.{is-shape}
use Rattle.cluster_model.proofs.Exactly.{exactly-clear}
use Rattle.cluster_model.specs.Prelude.{Edge, Shape, cleared, extent, room}

-- a shape is taken, and what is none is refused
taken : (K levels : ℕ) (ws : List ℕ) → Shape K levels (length ws) → number_of (cleared K levels ws).answer ≡ 0
unfolding cleared
taken K levels ws sh = rw (is-shape K levels (length ws) sh)

refused : (K levels : ℕ) (ws : List ℕ) → (Shape K levels (length ws) → ⊥) → number_of (cleared K levels ws).answer ≡ 1
refused K levels ws bad = ap said ((exactly-clear K levels ws).always BadShape (inl (bad, refl)))

-- .. with the capacity and the words in plain numbers
fits : (K levels places words : ℕ) → room K levels ≡ places → extent K levels 1 ≡ words → 2 ≤ K → K ≤ 16 → 1 ≤ levels → places ≤ 5460 → Edge K levels places words 0
fits K levels places words e w two sixteen some most =
    record { capacity = e; wide = w; says = λ ws l. taken K levels ws (record { two = two; sixteen = sixteen; some = some; capacity = omega (arith, e); slice = omega (arith, w) }) }

past : (K levels places words : ℕ) → room K levels ≡ places → extent K levels 1 ≡ words → 5460 < places → Edge K levels places words 1
past K levels places words e w h = record { capacity = e; wide = w; says = λ ws l. refused K levels ws (λ sh. omega (arith, sh.capacity)) }

-- "K from 2 to 16": 1 and 17 are refused, at one level
pub one-refused : Edge 1 1 1 6 1
unfolding room extent
one-refused = record { capacity = refl; wide = refl; says = λ ws l. refused 1 1 ws (λ sh. omega (arith, sh.two)) }

pub two-taken : Edge 2 1 2 10 0
unfolding room extent
two-taken = fits 2 1 2 10 refl refl (omega arith) (omega arith) (omega arith) (omega arith)

pub sixteen-taken : Edge 16 1 16 66 0
unfolding room extent
sixteen-taken = fits 16 1 16 66 refl refl (omega arith) (omega arith) (omega arith) (omega arith)

pub seventeen-refused : Edge 17 1 17 70 1
unfolding room extent
seventeen-refused = record { capacity = refl; wide = refl; says = λ ws l. refused 17 1 ws (λ sh. omega (arith, sh.sixteen)) }

-- "levels at least 1"
pub none-refused : Edge 5 0 0 0 1
unfolding room extent
none-refused = record { capacity = refl; wide = refl; says = λ ws l. refused 5 0 ws (λ sh. omega (arith, sh.some)) }

-- "at most 5,460": the most levels of K = 2, 5 and 16, and one level more
pub two-most : Edge 2 11 4094 20470 0
unfolding room extent
two-most = fits 2 11 4094 20470 refl refl (omega arith) (omega arith) (omega arith) (omega arith)

pub two_past : Edge 2 12 8190 40950 1
unfolding room extent
two_past = past 2 12 8190 40950 refl refl (omega arith)

pub five-most : Edge 5 10 5115 22506 0
unfolding room extent
five-most = fits 5 10 5115 22506 refl refl (omega arith) (omega arith) (omega arith) (omega arith)

pub five-past : Edge 5 11 10235 45034 1
unfolding room extent
five-past = past 5 11 10235 45034 refl refl (omega arith)

pub sixteen-most : Edge 16 8 4080 16830 0
unfolding room extent
sixteen-most = fits 16 8 4080 16830 refl refl (omega arith) (omega arith) (omega arith) (omega arith)

pub sixteen-past : Edge 16 9 8176 33726 1
unfolding room extent
sixteen-past = past 16 9 8176 33726 refl refl (omega arith)

-- LARGEST: no heap holds more than 5,115, which `five-most` does
room-times : (K k : ℕ) → room K k ≡ K * room 1 k
unfolding room
room-times K zero = omega arith
room-times K (suc k) = omega (arith, room-times K k, mul-add K (room 1 k) (room 1 k), mul-add K 1 (room 1 k + room 1 k), mul-one K)

-- twelve levels are too many, of any K
twelve : (K k : ℕ) → 2 ≤ K → 8190 ≤ room K (12 + k)
unfolding room
twelve K zero h = omega (arith, room-times K 12)
twelve K (suc k) h =
    let e : 12 + suc k ≡ suc (12 + k) = omega arith in
    omega (arith, twelve K k h, ap (room K) e)

few : (K k : ℕ) → K ≤ 16 → k < 12 → room K k ≤ 5460 → room K k ≤ 5115
unfolding room
few K zero sixteen h l = omega (arith, room-times K 0)
few K (suc zero) sixteen h l = omega (arith, room-times K 1)
few K (suc (suc zero)) sixteen h l = omega (arith, room-times K 2)
few K (suc (suc (suc zero))) sixteen h l = omega (arith, room-times K 3)
few K (suc (suc (suc (suc zero)))) sixteen h l = omega (arith, room-times K 4)
few K (suc (suc (suc (suc (suc zero))))) sixteen h l = omega (arith, room-times K 5)
few K (suc (suc (suc (suc (suc (suc zero)))))) sixteen h l = omega (arith, room-times K 6)
few K (suc (suc (suc (suc (suc (suc (suc zero))))))) sixteen h l = omega (arith, room-times K 7)
few K (suc (suc (suc (suc (suc (suc (suc (suc zero)))))))) sixteen h l = omega (arith, room-times K 8)
few K (suc (suc (suc (suc (suc (suc (suc (suc (suc zero))))))))) sixteen h l = omega (arith, room-times K 9)
few K (suc (suc (suc (suc (suc (suc (suc (suc (suc (suc zero)))))))))) sixteen h l = omega (arith, room-times K 10)
few K (suc (suc (suc (suc (suc (suc (suc (suc (suc (suc (suc zero))))))))))) sixteen h l = omega (arith, room-times K 11)
few K (suc (suc (suc (suc (suc (suc (suc (suc (suc (suc (suc (suc k)))))))))))) sixteen h l = absurd (omega arith)

pub largest : (K levels len : ℕ) → Shape K levels len → room K levels ≤ 5115
largest K levels len sh = go (ltb levels 12) refl
  where
    go : (b : Bool) → ltb levels 12 ≡ b → room K levels ≤ 5115
    go true e = few K levels sh.sixteen (ltb-true levels 12 e) sh.capacity
    go false e =
        let h : 12 ≤ levels = ltb-false levels 12 e in
        let f : levels ≡ 12 + (levels - 12) = omega arith in
        absurd (omega (arith, twelve K (levels - 12) sh.two, ap (room K) f, sh.capacity))
