-- A text laid piece by piece, and digits that say their number.
use Prim.Native.Nat.{◌%◌, ◌*◌, ◌+◌, ◌-◌, ◌/◌, ◌<◌, ◌^◌, ◌≤◌, suc, zero, ℕ}
use native.Mathlib.Nat.{add-zero, pow-suc, pow-zero}
use native.Mathlib.Omega.{arith}
use mathlib.Core.Bool.{Bool, cond, false, true}
use mathlib.Core.List.{[], ◌++◌, ◌∷◌, List}
use Rattle.std.proofs.Common.{append_assoc, drop, drop-drop}
use Rattle.std.proofs.lemmas.List.{take-append-drop, drop-set-lt}
use borrow.Rule.Slice.PartMut.{put_mid}
use lib.Seq.{take-suc-set}
use mathlib.Core.Path.{◌∙◌, ◌≡◌, ap, ap₂, refl, subst, sym}
use lib.Dec.{ltb}
use lib.ListN.{get_or, length, length-append, length-set, get_or-append, set, take}
use lib.Seq.{get_or-append_seam}
use borrow.Author.Tests.{le-ltb, lt-ltb, ltb-false, ltb-true}
use Rattle.text.specs.Text.{bytes_of, decimal_by, Laid, overlay, value, value_from}

-- a text behind another
pub overlay-append : (s : List ℕ) (i : ℕ) (xs ys : List ℕ) → overlay s i (xs ++ ys) ≡ overlay (overlay s i xs) (i + length xs) ys
unfolding overlay
overlay-append s i [] ys = ap (λ (j : ℕ). overlay s j ys) (sym (add-zero i))
overlay-append s i (x ∷ xs) ys = overlay-append (set s i x) (suc i) xs ys ∙ ap (λ (j : ℕ). overlay (overlay (set s i x) (suc i) xs) j ys) (omega arith)

pub overlay-one : (s : List ℕ) (i : ℕ) (xs : List ℕ) (x : ℕ) → overlay s i (xs ++ (x ∷ [])) ≡ set (overlay s i xs) (i + length xs) x
unfolding overlay
overlay-one s i xs x = overlay-append s i xs (x ∷ [])

pub overlay-length : (s : List ℕ) (i : ℕ) (t : List ℕ) → length (overlay s i t) ≡ length s
unfolding overlay
overlay-length s i [] = refl
overlay-length s i (x ∷ t) = overlay-length (set s i x) (suc i) t ∙ length-set s i x

pub decimal-short : (k n : ℕ) → length (decimal_by k n) ≤ k
unfolding decimal_by
decimal-short zero n = omega arith
decimal-short (suc k) n = go (ltb n 10) (decimal-short k (n / 10))
  where
    go : (b : Bool) → length (decimal_by k (n / 10)) ≤ k → length (cond b ((48 + n) ∷ []) (decimal_by k (n / 10) ++ ((48 + n % 10) ∷ []))) ≤ suc k
    go true h = omega arith
    go false h = rw length-append (omega arith)

-- ---- the digits of a number say that number
value-append : (a : ℕ) (xs : List ℕ) (d : ℕ) → value_from a (xs ++ (d ∷ [])) ≡ 10 * value_from a xs + (d - 48)
unfolding value_from
value-append a [] d = refl
value-append a (x ∷ xs) d = value-append (10 * a + (x - 48)) xs d

pub decimal-value : (k n : ℕ) → n < 10 ^ k → value (decimal_by k n) ≡ n
unfolding decimal_by value_from
decimal-value zero n h = omega (arith, pow-zero 10)
decimal-value (suc k) n h = go (ltb n 10) refl (decimal-value k (n / 10) (omega (arith, pow-suc 10 k)))
  where
    go : (b : Bool) → ltb n 10 ≡ b → value (decimal_by k (n / 10)) ≡ n / 10 → value (cond b ((48 + n) ∷ []) (decimal_by k (n / 10) ++ ((48 + n % 10) ∷ []))) ≡ n
    go true e v = omega arith
    go false e v = value-append 0 (decimal_by k (n / 10)) (48 + n % 10) ∙ omega arith

-- .. each of them is one of 0 to 9 ..
abbrev Digit : ℕ → Type 0
Digit d = (48 ≤ d) × (d ≤ 57)

only : (d i : ℕ) → i < 1 → get_or (d ∷ []) i 0 ≡ d
only d zero h = refl
only d (suc i) h = absurd (omega arith)

digit-more : (ds : List ℕ) (d i : ℕ) → Digit d → (i < length ds → Digit (get_or ds i 0)) → i < suc (length ds) → Digit (get_or (ds ++ (d ∷ [])) i 0)
digit-more ds d i last ih h = go (ltb i (length ds)) refl
  where
    go : (b : Bool) → ltb i (length ds) ≡ b → Digit (get_or (ds ++ (d ∷ [])) i 0)
    go true e = let l = ltb-true i (length ds) e in subst Digit (sym (get_or-append ds (d ∷ []) 0 i l)) (ih l)
    go false e =
        let at : length ds ≡ i = omega (arith, ltb-false i (length ds) e) in
        subst Digit (sym (ap (λ (j : ℕ). get_or (ds ++ (d ∷ [])) j 0) (sym at) ∙ get_or-append_seam ds d [] 0)) last

pub digit : (k n i : ℕ) → i < length (decimal_by k n) → (48 ≤ get_or (decimal_by k n) i 0) × (get_or (decimal_by k n) i 0 ≤ 57)
unfolding decimal_by
digit zero n i h = absurd (omega arith)
digit (suc k) n i h = go (ltb n 10) refl (digit k (n / 10) i) h
  where
    ds : List ℕ
    ds = decimal_by k (n / 10)

    go : (b : Bool) → ltb n 10 ≡ b → (i < length ds → Digit (get_or ds i 0)) → i < length (cond b ((48 + n) ∷ []) (ds ++ ((48 + n % 10) ∷ [])))
        → Digit (get_or (cond b ((48 + n) ∷ []) (ds ++ ((48 + n % 10) ∷ []))) i 0)
    go true e ih l = subst Digit (sym (only (48 + n) i (omega arith))) (omega arith, omega (arith, ltb-true n 10 e))
    go false e ih l = digit-more ds (48 + n % 10) i (omega arith, omega arith) ih (omega (arith, length-append ds ((48 + n % 10) ∷ [])))

-- .. and the first is not 0, but of the number 0
first-append : (ds es : List ℕ) → 48 < get_or ds 0 0 → 48 < get_or (ds ++ es) 0 0
first-append [] es h = absurd (omega arith)
first-append (d ∷ ds) es h = h

pub first-digit : (k n : ℕ) → 0 < n → n < 10 ^ k → 48 < get_or (decimal_by k n) 0 0
unfolding decimal_by
first-digit zero n some h = absurd (omega (arith, pow-zero 10))
first-digit (suc k) n some h = go (ltb n 10) refl (λ l. first-digit k (n / 10) l (omega (arith, pow-suc 10 k)))
  where
    go : (b : Bool) → ltb n 10 ≡ b → (0 < n / 10 → 48 < get_or (decimal_by k (n / 10)) 0 0) → 48 < get_or (cond b ((48 + n) ∷ []) (decimal_by k (n / 10) ++ ((48 + n % 10) ∷ []))) 0 0
    go true e ih = omega arith
    go false e ih = first-append (decimal_by k (n / 10)) ((48 + n % 10) ∷ []) (ih (omega (arith, ltb-false n 10 e)))

-- ---- for the code
pub digits-end : (s : List ℕ) (i left n : ℕ) → left ≡ 0 → (i ≡ i + length (decimal_by left n)) × (s ≡ overlay s i (decimal_by left n))
unfolding decimal_by overlay
digits-end s i zero n e = (omega arith, refl)
digits-end s i (suc k) n e = absurd (omega arith)

digits-as : (left n : ℕ) → (left ≡ 0 → ⊥) → decimal_by left n ≡ cond (ltb n 10) ((48 + n) ∷ []) (decimal_by (left - 1) (n / 10) ++ ((48 + n % 10) ∷ []))
unfolding decimal_by
digits-as zero n ne = absurd (ne refl)
digits-as (suc k) n ne = let e : k ≡ suc k - 1 = omega arith in ap (λ (j : ℕ). cond (ltb n 10) ((48 + n) ∷ []) (decimal_by j (n / 10) ++ ((48 + n % 10) ∷ []))) e

pub digits-one : (s : List ℕ) (i left n : ℕ) → (left ≡ 0 → ⊥) → n < 10 → (i + 1 ≡ i + length (decimal_by left n)) × (set s i (48 + n) ≡ overlay s i (decimal_by left n))
unfolding overlay
digits-one s i left n ne h = rw (digits-as left n ne, lt-ltb n 10 h) (refl, refl)

pub digits_more : (s r : List ℕ) (i p left n : ℕ) → (left ≡ 0 → ⊥) → 10 ≤ n → p ≡ i + length (decimal_by (left - 1) (n / 10)) → r ≡ overlay s i (decimal_by (left - 1) (n / 10))
    → (p + 1 ≡ i + length (decimal_by left n)) × (set r p (48 + n % 10) ≡ overlay s i (decimal_by left n))
digits_more s r i p left n ne h ep er =
    rw (digits-as left n ne, le-ltb n 10 h) (rw length-append (omega arith), rw (overlay-one, ← er, ← ep))

-- a text that fits is copied into its place
overlay-copied : (s : List ℕ) (i : ℕ) (t : List ℕ) → i + length t ≤ length s → overlay s i t ≡ take i s ++ (t ++ drop (i + length t) s)
unfolding overlay
overlay-copied s i [] h = rw add-zero (sym (take-append-drop i s))
overlay-copied s i (x ∷ t) h =
    let l : i < length s = omega arith in
    let k : suc i + length t ≤ length (set s i x) = rw length-set (omega arith) in
    let m : i < suc i + length t = omega arith in
    let n : suc i + length t ≡ i + suc (length t) = omega arith in
    overlay-copied (set s i x) (suc i) t k ∙ rw (take-suc-set s i x l, append_assoc, drop-set-lt (suc i + length t) s i x m, n)

pub overlay-put_mid : (s : List ℕ) (i k : ℕ) (t b : List ℕ) → t ≡ b → k ≡ length b → i + length b ≤ length s → put_mid i k s t ≡ overlay s i b
overlay-put_mid s i k t b e n h = rw (e, n, overlay-copied s i b h, drop-drop)

-- ---- texts laid one behind the other
pub laid_same : (s : List ℕ) (i : ℕ) (t t' r : List ℕ) (p : ℕ) → t ≡ t' → Laid s i t r p → Laid s i t' r p
laid_same s i t t' r p e l = subst (λ (t : List ℕ). Laid s i t r p) e l

pub laid-to : (s : List ℕ) (i : ℕ) (t t' r : List ℕ) (p q : ℕ) → t ≡ t' → q ≡ p → Laid s i t r p → Laid s i t' r q
laid-to s i t t' r p q e n l = subst (λ (t : List ℕ). Laid s i t r q) e (n ∙ l.0, l.1)

pub laid_none : (s : List ℕ) (i : ℕ) (t : List ℕ) → t ≡ [] → Laid s i t s i
unfolding overlay
laid_none s i t e = rw e (omega arith, refl)

pub laid_then : (s : List ℕ) (i : ℕ) (t r : List ℕ) (p : ℕ) (t' q : List ℕ) (o : ℕ) → Laid s i t r p → Laid r p t' q o → Laid s i (t ++ t') q o
laid_then s i t r p t' q o l k = (
  rw length-append (omega (arith, l.0, k.0)),
  k.1 ∙ ap₂ (λ (r : List ℕ) (p : ℕ). overlay r p t') l.1 l.0 ∙ sym (overlay-append s i t t'),
)

-- ---- plain text
-- a quoted text's bytes are the numbers of its characters: of all that are printed, the space the first, and of the newline
pub printed : bytes_of " !\"#$%&'()*+,-./0123456789:;<=>?@ABCDEFGHIJKLMNOPQRSTUVWXYZ[\\]^_`abcdefghijklmnopqrstuvwxyz{|}~\n" ≡ 32 ∷ 33 ∷ 34 ∷ 35 ∷ 36 ∷ 37 ∷ 38 ∷ 39 ∷ 40 ∷ 41 ∷ 42 ∷ 43 ∷ 44 ∷ 45 ∷ 46 ∷ 47 ∷ 48 ∷ 49 ∷ 50 ∷ 51 ∷ 52 ∷ 53 ∷ 54 ∷ 55 ∷ 56 ∷ 57 ∷ 58 ∷ 59 ∷ 60 ∷ 61 ∷ 62 ∷ 63 ∷ 64 ∷ 65 ∷ 66 ∷ 67 ∷ 68 ∷ 69 ∷ 70 ∷ 71 ∷ 72 ∷ 73 ∷ 74 ∷ 75 ∷ 76 ∷ 77 ∷ 78 ∷ 79 ∷ 80 ∷ 81 ∷ 82 ∷ 83 ∷ 84 ∷ 85 ∷ 86 ∷ 87 ∷ 88 ∷ 89 ∷ 90 ∷ 91 ∷ 92 ∷ 93 ∷ 94 ∷ 95 ∷ 96 ∷ 97 ∷ 98 ∷ 99 ∷ 100 ∷ 101 ∷ 102 ∷ 103 ∷ 104 ∷ 105 ∷ 106 ∷ 107 ∷ 108 ∷ 109 ∷ 110 ∷ 111 ∷ 112 ∷ 113 ∷ 114 ∷ 115 ∷ 116 ∷ 117 ∷ 118 ∷ 119 ∷ 120 ∷ 121 ∷ 122 ∷ 123 ∷ 124 ∷ 125 ∷ 126 ∷ 10 ∷ []
printed = refl
