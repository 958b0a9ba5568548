-- Each answer of each call, from what the call has tested.
use Rattle.laws.specs.Prelude.{BadRank, BadShape, Bool, Damaged, Element, Empty, Full, List, NoTag, Refusal, ◌&&◌, ◌<◌, ◌≡◌, ◌≤◌, ap, cond, eq-eqb, eqb, false, false≢true, le-ltb, lt-ltb, ltb, ne_eqb, not, sym, true, untagged, ℕ, Ok, Err, None, Some}
use Rattle.bucket_model.specs.Prelude.{Outcome, bit_words, blank_word, cleared, fill, given, held_count, is_shaped, is_whole, joined_bits, joined_words, lowest_of, outcome, pop_found, popped, push_found, pushed, refused, replace_found, replace_joined, replaced, room_after, room_of, store_words, taken_bits, taken_words, word}
use Rattle.bucket_model.specs.Layout.{Lay}
use Rattle.bucket_model.specs.Calls.{Lowest, Room}

-- two tests in turn, each with its refusal, that are asked as one
pub either : (b w : List ℕ) (first second : Bool) (x y z : Refusal) (o : Outcome) → (first && second) ≡ false → x ≡ cond first y z → refused x b w ≡ cond first (cond second o (refused y b w)) (refused z b w)
either b w true true x y z o e p = absurd (false≢true (sym e))
either b w true false x y z o e p = ap (λ (r : Refusal). refused r b w) p
either b w false second x y z o e p = ap (λ (r : Refusal). refused r b w) p

module _ (k : Lay) (b w : List ℕ) where
  -- ---- clear

  pub clear-bad : is_shaped k b w ≡ false → refused BadShape b w ≡ cleared k b w
  unfolding cleared
  clear-bad s = simp s

  pub clear-done : (b' w' : List ℕ) → is_shaped k b w ≡ true → b' ≡ fill (λ j. 0) (bit_words k) b → w' ≡ fill (blank_word k) (store_words k) w → outcome (Ok None) b' w' ≡ cleared k b w
  unfolding cleared
  clear-done b' w' s p q = simp (s, p, q)

  -- ---- held

  pub held-bad : is_shaped k b w ≡ false → Err BadShape ≡ held_count k b w
  unfolding held_count
  held-bad s = simp s

  pub held-torn : is_shaped k b w ≡ true → is_whole k b w ≡ false → Err Damaged ≡ held_count k b w
  unfolding held_count
  held-torn s j = simp (s, j)

  pub held-told : (h : ℕ) → is_shaped k b w ≡ true → is_whole k b w ≡ true → h ≡ word w k.held → Ok h ≡ held_count k b w
  unfolding held_count
  held-told h s j e = simp (s, j, e)

  -- ---- pop

  pub pop-bad : is_shaped k b w ≡ false → refused BadShape b w ≡ popped k b w
  unfolding popped
  pop-bad s = simp s

  module _ (s : is_shaped k b w ≡ true) where
    pub pop-limit : (x : Refusal) → (is_whole k b w && not (eqb (word w k.held) 0)) ≡ false → x ≡ cond (is_whole k b w) Empty Damaged → refused x b w ≡ popped k b w
    unfolding popped
    pop-limit x e p = rw s (either b w (is_whole k b w) (not (eqb (word w k.held) 0)) x Empty Damaged _ e p)

    module _ (j : is_whole k b w ≡ true) where
      pub pop-none : word w k.held ≡ 0 → refused Empty b w ≡ popped k b w
      unfolding popped
      pop-none z = simp (s, j, eq-eqb _ _ z)

      module _ (z : word w k.held ≡ 0 → ⊥) (low : Lowest) (e : low ≡ lowest_of k b w) where
        pub pop-unfit : low.good ≡ false → refused Damaged b w ≡ popped k b w
        unfolding popped pop_found
        pop-unfit g = simp (s, j, ne_eqb _ _ z, ← e, g)

        pub pop-out : (y : Element) (b' w' : List ℕ) → low.good ≡ true → y ≡ given k w low → b' ≡ taken_bits k b low → w' ≡ taken_words k w low
            → outcome (Ok (Some y)) b' w' ≡ popped k b w
        unfolding popped pop_found
        pop-out y b' w' g u p q = simp (s, j, ne_eqb _ _ z, ← e, g, u, p, q)

  -- ---- push

  module _ (x : Element) where
    pub push-bad : is_shaped k b w ≡ false → refused BadShape b w ≡ pushed k b w x
    unfolding pushed
    push-bad s = simp s

    module _ (s : is_shaped k b w ≡ true) where
      pub push-newcomer : (y : Refusal) → (ltb x.rank.0 k.ranks && not (untagged x)) ≡ false → y ≡ cond (ltb x.rank.0 k.ranks) NoTag BadRank → refused y b w ≡ pushed k b w x
      unfolding pushed
      push-newcomer y e p = rw s (either b w (ltb x.rank.0 k.ranks) (not (untagged x)) y NoTag BadRank _ e p)

      pub push-high : k.ranks ≤ x.rank.0 → refused BadRank b w ≡ pushed k b w x
      unfolding pushed
      push-high l = simp (s, le-ltb _ _ l)

      module _ (l : x.rank.0 < k.ranks) where
        pub push-untagged : untagged x ≡ true → refused NoTag b w ≡ pushed k b w x
        unfolding pushed
        push-untagged t = simp (s, lt-ltb _ _ l, t)

        module _ (t : untagged x ≡ false) where
          pub push-limit : (y : Refusal) → (is_whole k b w && not (eqb (word w k.held) k.nodes)) ≡ false → y ≡ cond (is_whole k b w) Full Damaged → refused y b w ≡ pushed k b w x
          unfolding pushed
          push-limit y e p = rw (s, lt-ltb x.rank.0 k.ranks l, t) (either b w (is_whole k b w) (not (eqb (word w k.held) k.nodes)) y Full Damaged _ e p)

          module _ (j : is_whole k b w ≡ true) where
            pub push-full : word w k.held ≡ k.nodes → refused Full b w ≡ pushed k b w x
            unfolding pushed
            push-full z = simp (s, lt-ltb _ _ l, t, j, eq-eqb _ _ z)

            module _ (z : word w k.held ≡ k.nodes → ⊥) (to : Room) (e : to ≡ room_of k b w x.rank.0) where
              pub push-unfit : to.good ≡ false → refused Damaged b w ≡ pushed k b w x
              unfolding pushed push_found
              push-unfit g = simp (s, lt-ltb _ _ l, t, j, ne_eqb _ _ z, ← e, g)

              pub push-done : (b' w' : List ℕ) → to.good ≡ true → b' ≡ joined_bits k b x to → w' ≡ joined_words k w x to → outcome (Ok None) b' w' ≡ pushed k b w x
              unfolding pushed push_found
              push-done b' w' g p q = simp (s, lt-ltb _ _ l, t, j, ne_eqb _ _ z, ← e, g, p, q)

  -- ---- replace

  module _ (x : Element) where
    pub replace-bad : is_shaped k b w ≡ false → refused BadShape b w ≡ replaced k b w x
    unfolding replaced
    replace-bad s = simp s

    module _ (s : is_shaped k b w ≡ true) where
      pub replace-newcomer : (y : Refusal) → (ltb x.rank.0 k.ranks && not (untagged x)) ≡ false → y ≡ cond (ltb x.rank.0 k.ranks) NoTag BadRank → refused y b w ≡ replaced k b w x
      unfolding replaced
      replace-newcomer y e p = rw s (either b w (ltb x.rank.0 k.ranks) (not (untagged x)) y NoTag BadRank _ e p)

      pub replace-high : k.ranks ≤ x.rank.0 → refused BadRank b w ≡ replaced k b w x
      unfolding replaced
      replace-high l = simp (s, le-ltb _ _ l)

      module _ (l : x.rank.0 < k.ranks) where
        pub replace-untagged : untagged x ≡ true → refused NoTag b w ≡ replaced k b w x
        unfolding replaced
        replace-untagged t = simp (s, lt-ltb _ _ l, t)

        module _ (t : untagged x ≡ false) where
          pub replace-limit : (y : Refusal) → (is_whole k b w && not (eqb (word w k.held) 0)) ≡ false → y ≡ cond (is_whole k b w) Empty Damaged → refused y b w ≡ replaced k b w x
          unfolding replaced
          replace-limit y e p = rw (s, lt-ltb x.rank.0 k.ranks l, t) (either b w (is_whole k b w) (not (eqb (word w k.held) 0)) y Empty Damaged _ e p)

          module _ (j : is_whole k b w ≡ true) where
            pub replace-none : word w k.held ≡ 0 → refused Empty b w ≡ replaced k b w x
            unfolding replaced
            replace-none z = simp (s, lt-ltb _ _ l, t, j, eq-eqb _ _ z)

            module _ (z : word w k.held ≡ 0 → ⊥) (low : Lowest) (e : low ≡ lowest_of k b w) where
              pub replace-unfit : low.good ≡ false → refused Damaged b w ≡ replaced k b w x
              unfolding replaced replace_found
              replace-unfit g = simp (s, lt-ltb _ _ l, t, j, ne_eqb _ _ z, ← e, g)

              module _ (g : low.good ≡ true) (to : Room) (f : to ≡ room_after k (taken_bits k b low) (taken_words k w low) x.rank.0) where
                pub replace-shut : to.good ≡ false → refused Damaged b w ≡ replaced k b w x
                unfolding replaced replace_found replace_joined
                replace-shut u = simp (s, lt-ltb _ _ l, t, j, ne_eqb _ _ z, ← e, g, ← f, u)

                pub replace-out : (y : Element) (b1 w1 b' w' : List ℕ) → to.good ≡ true → y ≡ given k w low → b1 ≡ taken_bits k b low → w1 ≡ taken_words k w low
                    → b' ≡ joined_bits k b1 x to → w' ≡ joined_words k w1 x to → outcome (Ok (Some y)) b' w' ≡ replaced k b w x
                unfolding replaced replace_found replace_joined
                replace-out y b1 w1 b' w' v u p1 q1 p q = simp (s, lt-ltb _ _ l, t, j, ne_eqb _ _ z, ← e, g, ← f, v, u, p, q, p1, q1)
