-- Each answer of each call at a port, from what the call has tested.
use Rattle.laws.specs.Prelude.{BadPort, BadRank, BadShape, Damaged, Element, Empty, Full, List, NoTag, ◌&&◌, ◌<◌, ◌≡◌, ◌≤◌, eq-eqb, false, le-ltb, lt-ltb, ne_eqb, true, untagged, ℕ, Ok, Err, None, Some}
use Rattle.bucket_model.specs.Calls.{Lowest}
use Rattle.bucket_model.specs.Calls.{Room}
use Rattle.bucket_model.specs.Prelude.{fill, given, joined_bits, joined_words, lowest_of, outcome, pop_found, push_found, refused, replace_joined, taken_bits, taken_words, word}
use Rattle.ports_model.specs.Prelude.{Shape, bit_words, blank_word, cleared, has_room, held_at, held_count, is_shaped, is_whole, limits_ok, popped, pushed, ranks_of, replace_found, replaced, room_after, room_of, seat, store_words}

pub clear-bad : (s : Shape) (lim b w : List ℕ) → (is_shaped s b w && limits_ok s lim) ≡ false → refused BadShape b w ≡ cleared s lim b w
unfolding cleared
clear-bad s lim b w e = simp e

pub clear-done : (s : Shape) (lim b w b' w' : List ℕ) → (is_shaped s b w && limits_ok s lim) ≡ true → b' ≡ fill (λ j. 0) (bit_words s) b → w' ≡ fill (blank_word s lim) (store_words s) w → outcome (Ok None) b' w' ≡ cleared s lim b w
unfolding cleared
clear-done s lim b w b' w' e p q = simp (e, p, q)

module _ (s : Shape) (p : ℕ) (b w : List ℕ) where
  -- ---- 1 and 8

  pub held-bad : is_shaped s b w ≡ false → Err BadShape ≡ held_count s p b w
  unfolding held_count
  held-bad z = simp z

  pub pop-bad : is_shaped s b w ≡ false → refused BadShape b w ≡ popped s p b w
  unfolding popped
  pop-bad z = simp z

  pub push-bad : (x : Element) → is_shaped s b w ≡ false → refused BadShape b w ≡ pushed s p b w x
  unfolding pushed
  push-bad x z = simp z

  pub replace-bad : (x : Element) → is_shaped s b w ≡ false → refused BadShape b w ≡ replaced s p b w x
  unfolding replaced
  replace-bad x z = simp z

  module _ (h : is_shaped s b w ≡ true) where
    pub held-unknown : s.ports ≤ p → Err BadPort ≡ held_count s p b w
    unfolding held_count
    held-unknown l = simp (h, le-ltb _ _ l)

    pub pop-unknown : s.ports ≤ p → refused BadPort b w ≡ popped s p b w
    unfolding popped
    pop-unknown l = simp (h, le-ltb _ _ l)

    pub push-unknown : (x : Element) → s.ports ≤ p → refused BadPort b w ≡ pushed s p b w x
    unfolding pushed
    push-unknown x l = simp (h, le-ltb _ _ l)

    pub replace-unknown : (x : Element) → s.ports ≤ p → refused BadPort b w ≡ replaced s p b w x
    unfolding replaced
    replace-unknown x l = simp (h, le-ltb _ _ l)

    module _ (p< : p < s.ports) where
      -- ---- held

      pub held-torn : is_whole s p b w ≡ false → Err Damaged ≡ held_count s p b w
      unfolding held_count
      held-torn j = simp (h, lt-ltb _ _ p<, j)

      pub held-told : (n : ℕ) → is_whole s p b w ≡ true → n ≡ word w (held_at s p) → Ok n ≡ held_count s p b w
      unfolding held_count
      held-told n j e = simp (h, lt-ltb _ _ p<, j, e)

      -- ---- pop

      module _ (j : is_whole s p b w ≡ true) where
        pub pop-none : word w (held_at s p) ≡ 0 → refused Empty b w ≡ popped s p b w
        unfolding popped
        pop-none z = simp (h, lt-ltb _ _ p<, j, eq-eqb _ _ z)

        module _ (z : word w (held_at s p) ≡ 0 → ⊥) (low : Lowest) (e : low ≡ lowest_of (seat s p) b w) where
          pub pop-unfit : low.good ≡ false → refused Damaged b w ≡ popped s p b w
          unfolding popped pop_found
          pop-unfit g = simp (h, lt-ltb _ _ p<, j, ne_eqb _ _ z, ← e, g)

          pub pop-out : (y : Element) (b' w' : List ℕ) → low.good ≡ true → y ≡ given (seat s p) w low → b' ≡ taken_bits (seat s p) b low → w' ≡ taken_words (seat s p) w low → outcome (Ok (Some y)) b' w' ≡ popped s p b w
          unfolding popped pop_found
          pop-out y b' w' g u f t = simp (h, lt-ltb _ _ p<, j, ne_eqb _ _ z, ← e, g, u, f, t)

      -- ---- push

      module _ (x : Element) where
        pub push-high : ranks_of s ≤ x.rank.0 → refused BadRank b w ≡ pushed s p b w x
        unfolding pushed
        push-high l = simp (h, lt-ltb _ _ p<, le-ltb _ _ l)

        module _ (l : x.rank.0 < ranks_of s) where
          pub push-untagged : untagged x ≡ true → refused NoTag b w ≡ pushed s p b w x
          unfolding pushed
          push-untagged t = simp (h, lt-ltb _ _ p<, lt-ltb _ _ l, t)

          module _ (t : untagged x ≡ false) where
            module _ (j : is_whole s p b w ≡ true) where
              pub push-full : has_room s p w ≡ false → refused Full b w ≡ pushed s p b w x
              unfolding pushed
              push-full z = simp (h, lt-ltb _ _ p<, lt-ltb _ _ l, t, j, z)

              module _ (z : has_room s p w ≡ true) (to : Room) (e : to ≡ room_of s p b w x.rank.0) where
                pub push-unfit : to.good ≡ false → refused Damaged b w ≡ pushed s p b w x
                unfolding pushed push_found
                push-unfit g = simp (h, lt-ltb _ _ p<, lt-ltb _ _ l, t, j, z, ← e, g)

                pub push-done : (b' w' : List ℕ) → to.good ≡ true → b' ≡ joined_bits (seat s p) b x to → w' ≡ joined_words (seat s p) w x to → outcome (Ok None) b' w' ≡ pushed s p b w x
                unfolding pushed push_found
                push-done b' w' g f u = simp (h, lt-ltb _ _ p<, lt-ltb _ _ l, t, j, z, ← e, g, f, u)

      -- ---- replace

      module _ (x : Element) where
        pub replace-high : ranks_of s ≤ x.rank.0 → refused BadRank b w ≡ replaced s p b w x
        unfolding replaced
        replace-high l = simp (h, lt-ltb _ _ p<, le-ltb _ _ l)

        module _ (l : x.rank.0 < ranks_of s) where
          pub replace-untagged : untagged x ≡ true → refused NoTag b w ≡ replaced s p b w x
          unfolding replaced
          replace-untagged t = simp (h, lt-ltb _ _ p<, lt-ltb _ _ l, t)

          module _ (t : untagged x ≡ false) where
            module _ (j : is_whole s p b w ≡ true) where
              pub replace-none : word w (held_at s p) ≡ 0 → refused Empty b w ≡ replaced s p b w x
              unfolding replaced
              replace-none z = simp (h, lt-ltb _ _ p<, lt-ltb _ _ l, t, j, eq-eqb _ _ z)

              module _ (z : word w (held_at s p) ≡ 0 → ⊥) (low : Lowest) (e : low ≡ lowest_of (seat s p) b w) where
                pub replace-unfit : low.good ≡ false → refused Damaged b w ≡ replaced s p b w x
                unfolding replaced replace_found
                replace-unfit g = simp (h, lt-ltb _ _ p<, lt-ltb _ _ l, t, j, ne_eqb _ _ z, ← e, g)

                module _ (g : low.good ≡ true) (to : Room) (f : to ≡ room_after s p (taken_bits (seat s p) b low) (taken_words (seat s p) w low) x.rank.0) where
                  pub replace-shut : to.good ≡ false → refused Damaged b w ≡ replaced s p b w x
                  unfolding replaced replace_found replace_joined
                  replace-shut u = simp (h, lt-ltb _ _ p<, lt-ltb _ _ l, t, j, ne_eqb _ _ z, ← e, g, ← f, u)

                  pub replace-out : (y : Element) (b1 w1 b' w' : List ℕ) → to.good ≡ true → y ≡ given (seat s p) w low → b1 ≡ taken_bits (seat s p) b low → w1 ≡ taken_words (seat s p) w low
                      → b' ≡ joined_bits (seat s p) b1 x to → w' ≡ joined_words (seat s p) w1 x to → outcome (Ok (Some y)) b' w' ≡ replaced s p b w x
                  unfolding replaced replace_found replace_joined
                  replace-out y b1 w1 b' w' v u f1 t1 f2 t2 = simp (h, lt-ltb _ _ p<, lt-ltb _ _ l, t, j, ne_eqb _ _ z, ← e, g, ← f, v, u, f2, t2, f1, t1)
