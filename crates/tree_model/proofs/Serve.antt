-- An operation that can be done leaves a sound store sound, holding what it takes in less what it gives out; what it gives has the lowest rank.
use Rattle.laws.specs.Prelude.{All, Bool, Element, List, [], ◌*◌, ◌+◌, ◌<◌, ◌∙◌, ◌∷◌, ◌≡◌, all_replicate, ap, arith, get_or, get_or-replicate, length, length-replicate, refl, replicate, subst, suc, sum-zero, sym, zero, ℕ}
use Rattle.promise.specs.Prelude.{always, lower}
use Rattle.tree_model.proofs.Acts.{acts}
use Rattle.tree_model.proofs.Hang.{apply-shaped, below_less, root-commutes, slots-hang}
use Rattle.tree_model.proofs.Many.{low-least, sum-counts}
use Rattle.tree_model.specs.Prelude.{Can, Levels, Op, Shaped, Slot, Sound, Store, Tree, apply, bare_levels, gain, hang, held, holding, loss, low, low_of, many, nothing, slots, sum_counts, tree_of, vacant, work}

module _ (m k : ℕ) (some : 0 < m) (ls : Levels (suc k)) (st : Store m k ls) where
  abbrev t : Tree (suc k)
  t = tree_of m (suc k) ls 0

  abbrev root : List Slot
  root = get_or ls.0 0 []

  pub root-slots : slots k t ≡ root
  unfolding slots tree_of
  root-slots = slots-hang root _

  pub root-sum : sum_counts root ≡ held (suc k) t
  root-sum = ap sum_counts (sym root-slots) ∙ sum-counts m k t st.sound.1

  pub root-low : low root ≡ low_of (suc k) t
  unfolding low_of
  root-low = ap low (sym root-slots)

  -- an operation at the root that can be done
  pub record Served (o : Op) : Type 0 where
    pub store : Store m k (apply m (suc k) (work o 0) ls)
    pub sum : (f : Element → Bool) → holding m k (apply m (suc k) (work o 0) ls) f + loss (suc k) o t f ≡ holding m k ls f + gain o f

  pub op-served : (o : Op) → Can m (suc k) o t → Served o
  unfolding holding
  op-served o c =
      let d = acts m (suc k) o t st.sound c in
      let e = root-commutes m some (suc k) o ls st.shaped in
      record {
        store = record { shaped = apply-shaped m some (suc k) (work o 0) 1 ls st.shaped; sound = rw e d.sound };
        sum = λ f. rw e (d.sum f);
      }

  -- with a sum that is not 0 something is held, and the root's lowest is least
  pub some-held : 0 < sum_counts root → 0 < held (suc k) t
  some-held h = subst (λ (n : ℕ). 0 < n) root-sum h

  pub root-least : 0 < sum_counts root → many (lower (low root).rank.0) (suc k) t ≡ 0
  root-least more = rw root-low (low-least m (suc k) t st.sound (some-held more))

-- ---- the cleared store
hang-replicate : {T : Type 0} (P : Slot × T → Type 0) (n : ℕ) (s : Slot) (g : ℕ → T) → ((j : ℕ) → j < n → P (s, g j)) → All P (hang (replicate n s) g)
unfolding hang
hang-replicate P zero s g h = tt
hang-replicate P (suc n) s g h = (h 0 (omega arith), hang-replicate P n s (λ j. g (suc j)) (λ j lt. h (suc j) (omega arith)))

pub length-hang : {T : Type 0} (nd : List Slot) (g : ℕ → T) → length (hang nd g) ≡ length nd
unfolding hang
length-hang [] g = refl
length-hang (s ∷ nd) g = ap suc (length-hang nd (λ j. g (suc j)))

module _ (m : ℕ) where
  cleared-shaped : (k c : ℕ) → Shaped m k c (bare_levels m k c)
  unfolding bare_levels
  cleared-shaped zero c = tt
  cleared-shaped (suc k) c = (length-replicate c _, all_replicate _ c _ (length-replicate m vacant), cleared-shaped k (c * m))

  cleared-none : (f : Element → Bool) (k c n : ℕ) → n < c → many f k (tree_of m k (bare_levels m k c) n) ≡ 0
  unfolding bare_levels tree_of many vacant
  cleared-none f zero c n h = refl
  cleared-none f (suc k) c n h =
      rw (get_or-replicate c n (replicate m vacant) [] h)
      (sum-zero _ (hang (replicate m vacant) (λ j. tree_of m k (bare_levels m k (c * m)) (n * m + j)))
      (hang-replicate _ m vacant _ (λ j lt. omega (arith, cleared-none f k (c * m) (n * m + j) (below_less m n c j h lt)))))

  cleared-sound : (k c n : ℕ) → n < c → Sound m k (tree_of m k (bare_levels m k c) n)
  unfolding bare_levels tree_of
  cleared-sound zero c n h = tt
  cleared-sound (suc k) c n h =
      rw (get_or-replicate c n (replicate m vacant) [] h) (
        length-hang (replicate m vacant) _ ∙ length-replicate m vacant,
        hang-replicate _ m vacant _ (λ j lt. (cleared-sound k (c * m) (n * m + j) (below_less m n c j h lt), nothing refl (cleared-none always k (c * m) (n * m + j) (below_less m n c j h lt)))),
      )

  pub cleared-store : (k : ℕ) → Store m k (bare_levels m (suc k) 1)
  cleared-store k = record { shaped = cleared-shaped (suc k) 1; sound = cleared-sound (suc k) 1 0 (omega arith) }

  pub cleared-holds : (k : ℕ) (f : Element → Bool) → holding m k (bare_levels m (suc k) 1) f ≡ 0
  unfolding holding
  cleared-holds k f = cleared-none f (suc k) 1 0 (omega arith)
