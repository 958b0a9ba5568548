-- One record read and written, in numbers: what is read of each kind, what is written of each, and that what is written is read again.
use Rattle.laws.specs.Prelude.{arith, eqb, eqb-true, false≢true, suc, zero, sym, Bool, Element, List, [], ◌<◌, ◌∙◌, ◌∷◌, ◌≡◌, ◌≤◌, and_left, ap, eq-eqb, false, le-leb, leb, leb-true, length, lt-leb, ne_eqb, not, not-false, refl, subst, true, ℕ}
use Rattle.lines_model.specs.declared.Due.{Due}
use Rattle.lines_model.specs.declared.Due.TheVariants.{Put, Rest, Swap, Take}
use Rattle.lines_records.specs.Lent.{carries, first_of, kind_in, line_in, LineRecord, pending_of, readable, record_of, word_limit}

-- ---- one record read
module _ (r : LineRecord) where
  pub pending-put : (x : Element) → x ≡ carries r → kind_in r ≡ 1 → Put (line_in r) x ≡ pending_of r
  unfolding pending_of
  pending-put x p e = rw (eq-eqb (kind_in r) 1 e) (ap (λ (x : Element). Put (line_in r) x) p)

  module _ (a : kind_in r ≡ 1 → ⊥) where
    pub pending-take : kind_in r ≡ 2 → Take (line_in r) ≡ pending_of r
    unfolding pending_of
    pending-take e = rw (ne_eqb (kind_in r) 1 a, eq-eqb (kind_in r) 2 e) refl

    module _ (b : kind_in r ≡ 2 → ⊥) where
      pub pending-swap : (x : Element) → x ≡ carries r → kind_in r ≡ 3 → Swap (line_in r) x ≡ pending_of r
      unfolding pending_of
      pending-swap x p e = rw (ne_eqb (kind_in r) 1 a, ne_eqb (kind_in r) 2 b, eq-eqb (kind_in r) 3 e) (ap (λ (x : Element). Swap (line_in r) x) p)

      pub pending-none : (kind_in r ≡ 3 → ⊥) → Rest ≡ pending_of r
      unfolding pending_of
      pending-none d = rw (ne_eqb (kind_in r) 1 a, ne_eqb (kind_in r) 2 b, ne_eqb (kind_in r) 3 d) refl

-- what is read of each kind, whatever the numbers that it does not use: of kind 0 nothing
module _ (l r t n : ℕ) where
  pub read_none : pending_of (0 ∷ l ∷ r ∷ t ∷ n ∷ []) ≡ Rest
  unfolding pending_of
  read_none = refl

  pub read-push : pending_of (1 ∷ l ∷ r ∷ t ∷ n ∷ []) ≡ Put l (record { rank = record { 0 = r }; tag = record { 0 = t }; length = record { 0 = n } })
  unfolding pending_of
  read-push = refl

  pub read-pop : pending_of (2 ∷ l ∷ r ∷ t ∷ n ∷ []) ≡ Take l
  unfolding pending_of
  read-pop = refl

  pub read-replace : pending_of (3 ∷ l ∷ r ∷ t ∷ n ∷ []) ≡ Swap l (record { rank = record { 0 = r }; tag = record { 0 = t }; length = record { 0 = n } })
  unfolding pending_of
  read-replace = refl

-- ---- one record written
module _ (due d : Due) (e : due ≡ d) where
  pub record_is : (r : LineRecord) → r ≡ record_of d → r ≡ record_of due
  record_is r p = p ∙ ap record_of (sym e)

  pub line-is : line_in (record_of due) < word_limit → line_in (record_of d) < word_limit
  line-is h = subst (λ (d : Due). line_in (record_of d) < word_limit) e h

-- what is written of each kind. "Numbers that a kind does not use are written 0"
pub written_none : record_of Rest ≡ 0 ∷ 0 ∷ 0 ∷ 0 ∷ 0 ∷ []
written_none = refl

pub written-pop : (l : ℕ) → record_of (Take l) ≡ 2 ∷ l ∷ 0 ∷ 0 ∷ 0 ∷ []
written-pop l = refl

module _ (l : ℕ) (x : Element) where
  pub written-push : record_of (Put l x) ≡ 1 ∷ l ∷ x.rank.0 ∷ x.tag.0 ∷ x.length.0 ∷ []
  written-push = refl

  pub written-replace : record_of (Swap l x) ≡ 3 ∷ l ∷ x.rank.0 ∷ x.tag.0 ∷ x.length.0 ∷ []
  written-replace = refl

-- READ BACK: what is written is read as what was pending, and its kind is one
pub read_back : (d : Due) → pending_of (record_of d) ≡ d
unfolding pending_of
read_back Rest = refl
read_back (Put l x) = refl
read_back (Take l) = refl
read_back (Swap l x) = refl

pub kind-back : (d : Due) → leb (kind_in (record_of d)) 3 ≡ true
kind-back Rest = refl
kind-back (Put l x) = refl
kind-back (Take l) = refl
kind-back (Swap l x) = refl

-- ---- the lent slice
module _ (rs : List LineRecord) where
  pub unlent : length rs < 1 → false ≡ readable rs
  unfolding readable
  unlent h = rw (lt-leb 1 (length rs) h) refl

  pub lent : 1 ≤ length rs → leb (kind_in (first_of rs)) 3 ≡ readable rs
  unfolding readable
  lent h = rw (le-leb 1 (length rs) h) refl

  pub some : (b : Bool) → b ≡ readable rs → not b ≡ false → 1 ≤ length rs
  unfolding readable
  some b e n = leb-true 1 (length rs) (and_left (leb 1 (length rs)) (leb (kind_in (first_of rs)) 3) (sym e ∙ not-false b n))

-- ---- whether there is a record
pub none_in : (n : ℕ) (b : Bool) → b ≡ eqb n 0 → b ≡ true → n < 1
none_in n b e t = omega (arith, eqb-true n 0 (sym e ∙ t))

pub some_in : (n : ℕ) (b : Bool) → b ≡ eqb n 0 → b ≡ false → 1 ≤ n
some_in zero b e f = absurd (false≢true (sym f ∙ e))
some_in (suc n) b e f = omega arith
