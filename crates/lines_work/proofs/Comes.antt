-- What a request comes to, and its counts, from what the steps have read.
use Rattle.laws.specs.Prelude.{Bool, Element, Empty, Full, Idle, List, Pop, Push, Replace, Request, ◌+◌, ◌-◌, ◌<◌, ◌∙◌, ◌≡◌, ◌≤◌, ap, ap₂, arith, element_in, eq-eqb, false, le-ltb, length, lt-ltb, ltb, ne_eqb, not, not-false, not-true, refl, set, subst, sym, true, untagged, ℕ, ℕ_discrete, Ok, None, Some}
use Rattle.lines_model.proofs.Acts.{giver-fits, goal-lt}
use Rattle.lines_model.proofs.Row.{other, same}
use Rattle.lines_model.proofs.Shaped.{shape-means}
use Rattle.lines_model.specs.Calls.{heads}
use Rattle.lines_model.specs.Layout.{row_at, shape_ok, word}
use Rattle.lines_model.specs.Rules.{choice, come_to, counted, denied, due_of, giver, goal, has_room, in_range, rank_fit, room_after, taker, total}
use Rattle.lines_model.specs.declared.Choice.{Choice}
use Rattle.lines_model.specs.declared.Due.{Due}
use Rattle.lines_model.specs.declared.Due.TheVariants.{Put, Rest, Swap, Take}
use Rattle.lines_model.specs.declared.Rows.{Rows}
use Rattle.lines_work.specs.Work.{Countable}
use Rattle.promise.specs.Prelude.{lacks_tag}

module _ (k : Rows) (w : List ℕ) where
  abbrev To : Request → Choice
  To q = come_to k (word w) (heads k w) q

  -- ---- push
  module _ (x : Element) (l : ℕ) (b : Bool) (e : l ≡ taker k (word w) x) (f : b ≡ has_room k (word w) l) where
    room-told : has_room k (word w) (taker k (word w) x) ≡ b
    room-told = ap (has_room k (word w)) (sym e) ∙ sym f

    pub come-full : (z : Choice) → not b ≡ true → z ≡ denied Full → z ≡ come_to k (word w) (heads k w) (Push x)
    unfolding come_to
    come-full z n p = rw (room-told ∙ not-true b n) p

    pub come-put : not b ≡ false → choice (Ok None) (Put l x) ≡ come_to k (word w) (heads k w) (Push x)
    unfolding come_to due_of
    come-put n = rw (room-told ∙ not-false b n) (ap (λ (l : ℕ). choice (Ok None) (Put l x)) e)

  -- ---- pop
  module _ (held : ℕ) (h : held ≡ total (word w) k.lines) where
    pub come-empty : (z : Choice) → held ≡ 0 → z ≡ denied Empty → z ≡ come_to k (word w) (heads k w) Pop
    unfolding come_to
    come-empty z n p = rw (eq-eqb (total (word w) k.lines) 0 (sym h ∙ n)) p

    some-held : (held ≡ 0 → ⊥) → total (word w) k.lines ≡ 0 → ⊥
    some-held n z = n (h ∙ z)

    pub giver-in : shape_ok k (length w) ≡ true → (held ≡ 0 → ⊥) → (l : ℕ) → l ≡ giver k (word w) (heads k w) → l < k.lines
    giver-in s n l e = rw e (giver-fits k (length w) ((shape-means k (length w)).says s) (word w) (heads k w) (some-held n)).0

    module _ (n : held ≡ 0 → ⊥) (l a : ℕ) (y : Element) (e : l ≡ giver k (word w) (heads k w)) (f : a ≡ row_at k l) (g : y ≡ element_in w a) where
      front-is : y ≡ heads k w (giver k (word w) (heads k w))
      front-is = g ∙ ap (element_in w) (f ∙ ap (row_at k) e)

      pub come-take : choice (Ok (Some y)) (Take l) ≡ come_to k (word w) (heads k w) Pop
      unfolding come_to due_of
      come-take = rw (ne_eqb (total (word w) k.lines) 0 (some-held n)) (ap₂ (λ (y : Element) (l : ℕ). choice (Ok (Some y)) (Take l)) front-is e)

      pub come-swap : (x : Element) (t : ℕ) (b : Bool) → t ≡ goal k l x → b ≡ room_after k (word w) l t → not b ≡ false → choice (Ok (Some y)) (Swap l x) ≡ come_to k (word w) (heads k w) (Replace x)
      unfolding come_to due_of
      come-swap x t b p q r =
          let z : room_after k (word w) (giver k (word w) (heads k w)) (goal k (giver k (word w) (heads k w)) x) ≡ true =
          ap (λ (j : ℕ). room_after k (word w) j (goal k j x)) (sym e) ∙ ap (room_after k (word w) l) (sym p) ∙ sym q ∙ not-false b r in
          rw (ne_eqb (total (word w) k.lines) 0 (some-held n), z) (ap₂ (λ (y : Element) (l : ℕ). choice (Ok (Some y)) (Swap l x)) front-is e)

    -- ---- replace
    pub come-none : (z : Choice) (x : Element) → held ≡ 0 → z ≡ denied Empty → z ≡ come_to k (word w) (heads k w) (Replace x)
    unfolding come_to
    come-none z x n p = rw (eq-eqb (total (word w) k.lines) 0 (sym h ∙ n)) p

    pub come-barred : (z : Choice) (x : Element) (l t : ℕ) (b : Bool) → (held ≡ 0 → ⊥) → l ≡ giver k (word w) (heads k w) → t ≡ goal k l x → b ≡ room_after k (word w) l t → not b ≡ true → z ≡ denied Full
        → z ≡ come_to k (word w) (heads k w) (Replace x)
    unfolding come_to
    come-barred z x l t b n e p q r f =
        let y : room_after k (word w) (giver k (word w) (heads k w)) (goal k (giver k (word w) (heads k w)) x) ≡ false =
        ap (λ (j : ℕ). room_after k (word w) j (goal k j x)) (sym e) ∙ ap (room_after k (word w) l) (sym p) ∙ sym q ∙ not-true b r in
        rw (ne_eqb (total (word w) k.lines) 0 (some-held n), y) f

  pub goal-in : shape_ok k (length w) ≡ true → (x : Element) → in_range k x ≡ true → (l t : ℕ) → l < k.lines → t ≡ goal k l x → t < k.lines
  goal-in s x f l t h e = rw e (goal-lt k x f (length w) ((shape-means k (length w)).says s) l h)

  -- ---- any
  pub come-idle : (q : Request) → q ≡ Idle → choice (Ok None) Rest ≡ come_to k (word w) (heads k w) q
  unfolding come_to due_of
  come-idle q e = rw e refl

  pub come-as : (z : Choice) (q r : Request) → q ≡ r → z ≡ come_to k (word w) (heads k w) r → z ≡ come_to k (word w) (heads k w) q
  come-as z q r e p = rw e p

pub fit-as : (k : Rows) (q : Request) (x : Element) (b : Bool) → q ≡ Push x → b ≡ in_range k x → b ≡ rank_fit k q
fit-as k q x b e p = rw e p

pub fit-with : (k : Rows) (q : Request) (x : Element) (b : Bool) → q ≡ Replace x → b ≡ in_range k x → b ≡ rank_fit k q
fit-with k q x b e p = rw e p

pub lacks-as : (q : Request) (x : Element) (b : Bool) → q ≡ Push x → b ≡ untagged x → b ≡ lacks_tag q
lacks-as q x b e p = rw e p

pub lacks-with : (q : Request) (x : Element) (b : Bool) → q ≡ Replace x → b ≡ untagged x → b ≡ lacks_tag q
lacks-with q x b e p = rw e p

pub room_in : (k : Rows) (c : ℕ → ℕ) (l : ℕ) → l < k.lines → ltb (c l) k.places ≡ has_room k c l
room_in k c l h = rw (lt-ltb l k.lines h) refl

pub room_out : (k : Rows) (c : ℕ → ℕ) (l : ℕ) → k.lines ≤ l → false ≡ has_room k c l
room_out k c l h = rw (le-ltb l k.lines h) refl

-- ---- the counts

module _ (k : Rows) (w : List ℕ) (due : Due) where
  pub count-rest : due ≡ Rest → w ≡ counted k due w
  unfolding counted
  count-rest e = rw e refl

  pub count-put : (l : ℕ) (x : Element) → due ≡ Put l x → set w l (word w l + 1) ≡ counted k due w
  unfolding counted
  count-put l x e = rw e refl

  pub count-take : (l : ℕ) → due ≡ Take l → set w l (word w l - 1) ≡ counted k due w
  unfolding counted
  count-take l e = rw e refl

  pub count-swap : (l g : ℕ) (x : Element) → due ≡ Swap l x → g ≡ goal k l x → (let v = set w l (word w l - 1) in set v g (word v g + 1)) ≡ counted k due w
  unfolding counted
  count-swap l g x e p = rw (e, p) refl

  pub swap-room : (l g : ℕ) (x : Element) → due ≡ Swap l x → g ≡ goal k l x → Countable k w due → word (set w l (word w l - 1)) g < 4294967295
  swap-room l g x e p c =
      let f = subst (Countable k w) e c in
      elim (ℕ_discrete g l) [
        | yes q ↦ (let z : word (set w l (word w l - 1)) g ≡ word w l - 1 = ap (word (set w l (word w l - 1))) q ∙ same w l (word w l - 1) f.0 in
            let y : word w (goal k l x) ≡ word w l = ap (word w) (sym p ∙ q) in omega (arith, f.3))
        | no q ↦ (let z : word (set w l (word w l - 1)) g ≡ word w g = other w l (word w l - 1) g q in let y : word w (goal k l x) ≡ word w g = ap (word w) (sym p) in omega (arith, f.3))
      ]
