-- Each answer of a call from what it has tested, by the seat and the sums that it works with: it is the rules'.
use Rattle.laws.specs.Prelude.{BadPort, BadRank, BadShape, Bool, Damaged, Element, Empty, Full, List, NoTag, Refusal, ◌&&◌, ◌*◌, ◌+◌, ◌<◌, ◌∙◌, ◌≡◌, and_left, and_right, ap, arith, cond, eqb, false, false≢true, ltb, ltb-true, means-eqb, means-not, not, not-true, refl, subst, sym, true, untagged, ℕ, Result, Ok, Err, None, Some}
use Rattle.bucket_model.specs.declared.Lay.{Lay}
use Rattle.bucket_model.specs.Calls.{Lowest}
use Rattle.bucket_model.specs.Calls.{Room}
use Rattle.bucket_model.specs.Prelude.{depth_ok, fill, given, joined_bits, joined_words, lowest_of, outcome, refused, room_with, taken_bits, taken_words, word}
use Rattle.bucket_model.proofs.Laws.{either}
use Rattle.bucket_step.specs.Tested.{Freeing, FoundRoom, room_freed}
use Rattle.ports_model.specs.declared.Shape.{Shape}
use Rattle.ports_model.specs.Prelude.{bit_words, blank_word, cleared, has_room, held_at, held_count, is_shaped, is_whole, limits_ok, popped, pushed, ranks_of, replaced, room_after, room_of, seat, shape_ok}
use Rattle.ports_model.proofs.Returns as told
use Rattle.ports_step.specs.declared.Totals.{Totals}
use Rattle.ports_step.specs.Sums.{Summed, whole_by, room_by}
use Rattle.ports.specs.Blank.{blank_at}
use Rattle.ports.proofs.Pool.{Known, shape-ok, port-ok, shaped, port<, used-is, whole_by_lem, room_by_lem, push-whole, push-room, after_is}

-- ---- clear

module _ (s : Shape) (lim b w : List ℕ) where
  pub clear-bad : is_shaped s b w ≡ false → refused BadShape b w ≡ cleared s lim b w
  clear-bad h = told.clear-bad s lim b w (ap (λ (t : Bool). t && limits_ok s lim) h)

  pub clear-unfair : is_shaped s b w ≡ true → limits_ok s lim ≡ false → refused BadShape b w ≡ cleared s lim b w
  clear-unfair h l = told.clear-bad s lim b w (λ i. h i && l i)

  pub clear-done : is_shaped s b w ≡ true → limits_ok s lim ≡ true → (k : Lay) → k ≡ seat s 0 → (tall : ℕ) → tall ≡ bit_words s → (b' w' : List ℕ) → b' ≡ fill (λ j. 0) tall b → w' ≡ fill (blank_at k lim) (k.free + (1 + 3 * s.ports)) w → outcome (Ok None) b' w' ≡ cleared s lim b w
  unfolding blank_word
  clear-done h l k e tall t b' w' p q =
      told.clear-done s lim b w b' w' (λ i. h i && l i) (p ∙ (λ j. fill (λ x. 0) (t j) b)) (q ∙ (λ j. fill (blank_at (e j) lim) ((e j).free + (1 + 3 * s.ports)) w))

-- ---- a depth, or a port, that there is not

unshaped : (s : Shape) (b w : List ℕ) → depth_ok s.storeys ≡ false → is_shaped s b w ≡ false
unfolding shape_ok
unshaped s b w e = simp e

module _ (s : Shape) (p : ℕ) (b w : List ℕ) where
  pub pop-undeep : depth_ok s.storeys ≡ false → refused BadShape b w ≡ popped s p b w
  pop-undeep e = told.pop-bad s p b w (unshaped s b w e)

  pub push-undeep : (x : Element) → depth_ok s.storeys ≡ false → refused BadShape b w ≡ pushed s p b w x
  push-undeep x e = told.push-bad s p b w x (unshaped s b w e)

  module _ (y : Refusal) (n : (is_shaped s b w && ltb p s.ports) ≡ false) (q : y ≡ cond (is_shaped s b w) BadPort BadShape) where
    pub pop-unknown : refused y b w ≡ popped s p b w
    unfolding popped
    pop-unknown = either b w (is_shaped s b w) (ltb p s.ports) y BadPort BadShape _ n q

    pub push-unknown : (x : Element) → refused y b w ≡ pushed s p b w x
    unfolding pushed
    push-unknown x = either b w (is_shaped s b w) (ltb p s.ports) y BadPort BadShape _ n q

    pub replace-unknown : (x : Element) → refused y b w ≡ replaced s p b w x
    unfolding replaced
    replace-unknown x = either b w (is_shaped s b w) (ltb p s.ports) y BadPort BadShape _ n q

    pub held-unknown : Err y ≡ held_count s p b w
    unfolding held_count
    held-unknown = go (is_shaped s b w) (ltb p s.ports) _ n q
      where
        go : (first second : Bool) (o : Result ℕ Refusal) → (first && second) ≡ false → y ≡ cond first BadPort BadShape → Err y ≡ cond first (cond second o (Err BadPort)) (Err BadShape)
        go true true o e f = absurd (false≢true (sym e))
        go true false o e f = ap (λ (r : Refusal). Err r) f
        go false second o e f = ap (λ (r : Refusal). Err r) f

-- ---- a known port

module _ (s : Shape) (p : ℕ) (b w : List ℕ) (k : Lay) (e : k ≡ seat s p) (h : Known s p b w) where
  held-is : word w k.held ≡ word w (held_at s p)
  held-is = ap (λ (k : Lay). word w k.held) e

  -- a newcomer without a rank that there is, or without a tag
  module _ (x : Element) (y : Refusal) (n : (ltb x.rank.0 k.ranks && not (untagged x)) ≡ false) (q : y ≡ cond (ltb x.rank.0 k.ranks) NoTag BadRank) where
    n' : (ltb x.rank.0 (ranks_of s) && not (untagged x)) ≡ false
    n' = subst (λ (k : Lay). (ltb x.rank.0 k.ranks && not (untagged x)) ≡ false) e n

    q' : y ≡ cond (ltb x.rank.0 (ranks_of s)) NoTag BadRank
    q' = subst (λ (k : Lay). y ≡ cond (ltb x.rank.0 k.ranks) NoTag BadRank) e q

    pub push-newcomer : refused y b w ≡ pushed s p b w x
    unfolding pushed
    push-newcomer = rw (shape-ok s p b w h, port-ok s p b w h) (either b w (ltb x.rank.0 (ranks_of s)) (not (untagged x)) y NoTag BadRank _ n' q')

    pub replace-newcomer : refused y b w ≡ replaced s p b w x
    unfolding replaced
    replace-newcomer = rw (shape-ok s p b w h, port-ok s p b w h) (either b w (ltb x.rank.0 (ranks_of s)) (not (untagged x)) y NoTag BadRank _ n' q')

  -- a newcomer that may come
  module _ (x : Element) (c : (ltb x.rank.0 k.ranks && not (untagged x)) ≡ true) where
    c' : (ltb x.rank.0 (ranks_of s) && not (untagged x)) ≡ true
    c' = subst (λ (k : Lay). (ltb x.rank.0 k.ranks && not (untagged x)) ≡ true) e c

    rank-ok : ltb x.rank.0 (ranks_of s) ≡ true
    rank-ok = and_left (ltb x.rank.0 (ranks_of s)) (not (untagged x)) c'

    tag-ok : not (untagged x) ≡ true
    tag-ok = and_right (ltb x.rank.0 (ranks_of s)) (not (untagged x)) c'

    rank< : x.rank.0 < ranks_of s
    rank< = ltb-true x.rank.0 (ranks_of s) rank-ok

    tagged : untagged x ≡ false
    tagged = not-true (untagged x) tag-ok

  module _ (t : Totals) (z : Summed w k.free s.ports t) where
    W : whole_by k t b w ≡ is_whole s p b w
    W = whole_by_lem s p b w k e t z

    -- ---- held

    pub held-torn : whole_by k t b w ≡ false → Err Damaged ≡ held_count s p b w
    held-torn n = told.held-torn s p b w (shape-ok s p b w h) (port< s p b w h) (sym W ∙ n)

    pub held-told : (m : ℕ) → whole_by k t b w ≡ true → m ≡ word w k.held → Ok m ≡ held_count s p b w
    held-told m n q = told.held-told s p b w (shape-ok s p b w h) (port< s p b w h) m (sym W ∙ n) (q ∙ held-is)

    -- ---- nothing can be given

    module _ (y : Refusal) (n : (whole_by k t b w && not (eqb (word w k.held) 0)) ≡ false) (q : y ≡ cond (whole_by k t b w) Empty Damaged) where
      none : (is_whole s p b w && not (eqb (word w (held_at s p)) 0)) ≡ false
      none = (λ i. sym W i && not (eqb (sym held-is i) 0)) ∙ n

      why : y ≡ cond (is_whole s p b w) Empty Damaged
      why = q ∙ ap (λ (t : Bool). cond t Empty Damaged) W

      pub pop-limit : refused y b w ≡ popped s p b w
      unfolding popped
      pop-limit = rw (shape-ok s p b w h, port-ok s p b w h) (either b w (is_whole s p b w) (not (eqb (word w (held_at s p)) 0)) y Empty Damaged _ none why)

      pub replace-limit : (x : Element) → (ltb x.rank.0 k.ranks && not (untagged x)) ≡ true → refused y b w ≡ replaced s p b w x
      unfolding replaced
      replace-limit x c = rw (shape-ok s p b w h, port-ok s p b w h, rank-ok x c, tag-ok x c) (either b w (is_whole s p b w) (not (eqb (word w (held_at s p)) 0)) y Empty Damaged _ none why)

    -- ---- something can

    module _ (r : (whole_by k t b w && not (eqb (word w k.held) 0)) ≡ true) where
      whole : is_whole s p b w ≡ true
      whole = sym W ∙ and_left (whole_by k t b w) (not (eqb (word w k.held) 0)) r

      pub give-some : word w k.held ≡ 0 → ⊥
      give-some = (means-not (means-eqb (word w k.held) 0)).says (and_right (whole_by k t b w) (not (eqb (word w k.held) 0)) r)

      some : word w (held_at s p) ≡ 0 → ⊥
      some n = give-some (held-is ∙ n)

      pub pop-unfit : (lowest_of k b w).good ≡ false → refused Damaged b w ≡ popped s p b w
      pop-unfit n = told.pop-unfit s p b w (shape-ok s p b w h) (port< s p b w h) whole some (lowest_of (seat s p) b w) refl (subst (λ (k : Lay). (lowest_of k b w).good ≡ false) e n)

      pub pop-out : (low : Lowest) → low ≡ lowest_of k b w → low.good ≡ true → (y : Element) (b' w' : List ℕ) → y ≡ given k w low → b' ≡ taken_bits k b low → w' ≡ taken_words k w low → outcome (Ok (Some y)) b' w' ≡ popped s p b w
      pop-out low l g y b' w' u v x =
          told.pop-out s p b w (shape-ok s p b w h) (port< s p b w h) whole some low (l ∙ (λ i. lowest_of (e i) b w)) y b' w' g (u ∙ (λ i. given (e i) w low)) (v ∙ (λ i. taken_bits (e i) b low)) (x ∙ (λ i. taken_words (e i) w low))

      module _ (x : Element) (c : (ltb x.rank.0 k.ranks && not (untagged x)) ≡ true) where
        pub replace-unfit : (lowest_of k b w).good ≡ false → refused Damaged b w ≡ replaced s p b w x
        replace-unfit n = told.replace-unfit s p b w (shape-ok s p b w h) (port< s p b w h) x (rank< x c) (tagged x c) whole some (lowest_of (seat s p) b w) refl (subst (λ (k : Lay). (lowest_of k b w).good ≡ false) e n)

        module _ (low : Lowest) (l : low ≡ lowest_of k b w) (g : low.good ≡ true) (f : Freeing k b w low) (good? : Bool) (to : Room) (q : FoundRoom good? to (room_freed k (taken_bits k b low) (taken_words k w low) x.rank.0)) where
          abbrev room : Room
          room = room_after s p (taken_bits (seat s p) b low) (taken_words (seat s p) w low) x.rank.0

          -- the tests as after the pop are those of the rules
          after : FoundRoom good? to (room_after s p (taken_bits (seat s p) b low) (taken_words (seat s p) w low) x.rank.0)
          after =
              subst (λ (y : Room). FoundRoom good? to y)
              ((λ i. room_freed (e i) (taken_bits (e i) b low) (taken_words (e i) w low) x.rank.0)
              ∙ after_is s p b w low (subst (λ (k : Lay). Freeing k b w low) e f) (let z = shaped s p b w h in omega (arith, z.two)) (port< s p b w h) whole x.rank.0)
              q

          pub replace-shut : good? ≡ false → refused Damaged b w ≡ replaced s p b w x
          replace-shut n = told.replace-shut s p b w (shape-ok s p b w h) (port< s p b w h) x (rank< x c) (tagged x c) whole some low (l ∙ (λ i. lowest_of (e i) b w)) g room refl (sym after.good ∙ n)

          pub replace-out : good? ≡ true → (y : Element) (b1 b' w' : List ℕ) → y ≡ given k w low → b1 ≡ taken_bits k b low → b' ≡ joined_bits k b1 x to → w' ≡ joined_words k (taken_words k w low) x to → outcome (Ok (Some y)) b' w' ≡ replaced s p b w x
          replace-out m y b1 b' w' u p1 v o =
              told.replace-out s p b w (shape-ok s p b w h) (port< s p b w h) x (rank< x c) (tagged x c) whole some low (l ∙ (λ i. lowest_of (e i) b w)) g to (after.is m) y b1 (taken_words (seat s p) w low) b' w'
              (ap (λ (r : Room). r.good) (after.is m) ∙ sym after.good ∙ m) (u ∙ (λ i. given (e i) w low)) (p1 ∙ (λ i. taken_bits (e i) b low)) refl (v ∙ (λ i. joined_bits (e i) b1 x to)) (o ∙ (λ i. joined_words (e i) (taken_words (e i) w low) x to))

    -- ---- a push

    module _ (x : Element) (c : (ltb x.rank.0 k.ranks && not (untagged x)) ≡ true) where
      pub push-limit : (y : Refusal) → (whole_by k t b w && room_by k t w) ≡ false → y ≡ cond (whole_by k t b w) Full Damaged → refused y b w ≡ pushed s p b w x
      unfolding pushed
      push-limit y n q =
          rw (shape-ok s p b w h, port-ok s p b w h, rank-ok x c, tag-ok x c)
          (either b w (is_whole s p b w) (has_room s p w) y Full Damaged _ ((λ i. sym W i && sym (room_by_lem s p b w k e t z) i) ∙ n) (q ∙ ap (λ (t : Bool). cond t Full Damaged) W))

      module _ (r : (whole_by k t b w && room_by k t w) ≡ true) where
        room-is : room_with k t.used b w x.rank.0 ≡ room_of s p b w x.rank.0
        room-is = λ i. room_with (e i) (used-is s p b w k e t z i) b w x.rank.0

        pub push-unfit : (room_with k t.used b w x.rank.0).good ≡ false → refused Damaged b w ≡ pushed s p b w x
        push-unfit n = told.push-unfit s p b w (shape-ok s p b w h) (port< s p b w h) x (rank< x c) (tagged x c) (push-whole s p b w k e t z h r) (push-room s p b w k e t z h r) (room_with k t.used b w x.rank.0) room-is n

        pub push-done : (to : Room) → to ≡ room_with k t.used b w x.rank.0 → to.good ≡ true → (b' w' : List ℕ) → b' ≡ joined_bits k b x to → w' ≡ joined_words k w x to → outcome (Ok None) b' w' ≡ pushed s p b w x
        push-done to l g b' w' u v =
            told.push-done s p b w (shape-ok s p b w h) (port< s p b w h) x (rank< x c) (tagged x c) (push-whole s p b w k e t z h r) (push-room s p b w k e t z h r) to (l ∙ room-is) b' w' g (u ∙ (λ i. joined_bits (e i) b x to)) (v ∙ (λ i. joined_words (e i) w x to))
