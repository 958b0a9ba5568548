-- A store whose ports hold lists does what the plain lists do, call by call.
use Rattle.laws.specs.Prelude.{BadPort, BadRank, Bool, Element, Empty, Full, Idle, List, NoTag, Pop, Push, Replace, [], ◌-◌, ◌<◌, ◌∙◌, ◌∷◌, ◌≡◌, ◌≤◌, ap, arith, cond, dec_lt, false, inl, inr, is-upd, le-ltb, length, length_of, lt-ltb, not, number_of, rank_of, refl, same-upd, subst, suc, sym, tag_of, true, untagged, upd, ℕ, ℕ_discrete, Ok, None, Some, Err}
use Rattle.promise.specs.Prelude.{Step, step}
use Rattle.bucket_model.specs.Calls.{Lowest}
use Rattle.bucket_model.specs.Calls.{Room}
use Rattle.bucket_model.specs.Prelude.{Call, Outcome, Said, Store, answered, ask, counted, held, insert, joined_bits, joined_words, lowest_of, lowest_rank, outcome, plain_pop, plain_replace, plain_with, refused, room_with, roomy, store, tagged, taken_bits, taken_words, word}
use Rattle.bucket_model.specs.Plain as plain
use Rattle.bucket_model.proofs.Laws.{HoldsIn, Popped, Pushed, insert-length, join-means, joined-bits-away, joined-bits-length, joined-foreign, joined_length, low-is, low-rank, pop-means, pop-way, pops, pushes, taken-bits-away, taken-bits-length, taken-foreign, taken-length}
use Rattle.ports_model.specs.Prelude.{Ask, Lists, Shape, Swaps, Whole, accepts, asked, at, back, called, called_at, denied, free_at, held_at, held_in_all, is_shaped, is_whole, pop_leaves, popped, pushed, ranks_of, replaced, room_after, room_of, seat, served, used_in}
use Rattle.ports_model.proofs.Facts.{shape-means, whole-means, after-means}
use Rattle.ports_model.proofs.Places.{laid, seating}
use Rattle.ports_model.proofs.Returns as told
use Rattle.ports_model.proofs.Room.{upd-sound, served-in, served-out, accepts-means, spare-node, room-again}
use Rattle.ports_model.proofs.Store.{Holds, used-is, room-is, others-are, port-holds, whole, Change, changed}

-- a list put back where it was
pub put_back : (st : Lists) (p : ℕ) (l : List Element) → l ≡ st p → st ≡ upd st p l
put_back st p l e = λ i q. sym (same-upd st (upd st p l) p l (is-upd st p l) (sym e) q) i

module _ (s : Shape) (deep : 1 ≤ s.storeys) (some : 1 ≤ s.ports) (lim : List ℕ) where
  -- the words and the lists say alike, and the words hold the lists again
  pub record Agree (x : Step Said Store) (y : Step Said Lists) : Type 0 where
    pub alike : x.said ≡ y.said
    pub holds : Holds s deep some lim x.next.bits x.next.words y.next

  abbrev ran : Outcome → Step Said Store
  ran o = step (answered o.answer) (store o.bits o.words)

  by : (o o' : Outcome) (y : Step Said Lists) → o' ≡ o → Agree (ran o') y → Agree (ran o) y
  by o o' y e a = subst (λ (o : Outcome). Agree (ran o) y) e a

  -- ---- what a pop and a push at a port do to the store

  module _ (b w : List ℕ) (st : Lists) (h : Holds s deep some lim b w st) (p : ℕ) (p< : p < s.ports) where
    abbrev others : ℕ
    others = held_in_all s st - length (st p)

    abbrev P : HoldsIn (seat s p) (seating s deep p p<) (held_in_all s st - length (st p)) b w (st p)
    P = port-holds s deep some lim b w st h p p<

    pub free> : (used_in s w ≡ s.nodes → ⊥) → 1 ≤ word w (free_at s)
    free> n = let z : word w (free_at s) ≡ 0 → ⊥ = λ e. n ((whole s deep some lim b w st h p p<).full.to e) in omega arith

    module _ (x : Element) (l : List Element) (y : Popped (seat s p) (seating s deep p p<) (held_in_all s st - length (st p)) b w (st p) (port-holds s deep some lim b w st h p p<) x l) where
      good : (lowest_of (seat s p) b w).good ≡ true
      good = (pop-means (seat s p) b w).holds y.fit

      rank< : (lowest_of (seat s p) b w).rank < ranks_of s
      rank< = rw (low-rank (seat s p) b w good) y.within

      node : (1 ≤ (lowest_of (seat s p) b w).head) × ((lowest_of (seat s p) b w).head ≤ s.nodes)
      node = rw (ap (λ (v : Lowest). v.head) (low-is (seat s p) b w (pop-way (seat s p) b w good))) (omega (arith, y.fit.head≢), y.fit.head≤)

      pop-change : Change s deep some lim b w st h p p< (taken_bits (seat s p) b (lowest_of (seat s p) b w)) (taken_words (seat s p) w (lowest_of (seat s p) b w)) l
      unfolding port-holds
      pop-change =
          let low = lowest_of (seat s p) b w in
          record {
            port = y.after;
            else = λ c i n. y.else c i (n (lowest_rank (seat s p) b) y.within);
            bits-long = taken-bits-length (seat s p) b low;
            words_long = taken-length (seat s p) w low;
            bits-off = λ i a. taken-bits-away (seat s p) (laid s deep p p<) b low i rank< a;
            words-off = λ i f. taken-foreign (seat s p) (laid s deep p p<) w low P.shaped.words rank< node.0 node.1 i f;
            sound = upd-sound s lim h.fair st h.sound p p< l (inr (inr (ap length y.list)));
          }

      pub pop-left : Holds s deep some lim (taken_bits (seat s p) b (lowest_of (seat s p) b w)) (taken_words (seat s p) w (lowest_of (seat s p) b w)) (upd st p l)
      pop-left = changed s deep some lim b w st h p p< _ _ l pop-change

    module _ (e : Element) (r< : e.rank.0 < ranks_of s) (a : accepts s lim st p ≡ true) where
      not-all : used_in s w ≡ s.nodes → ⊥
      not-all i = omega (arith, spare-node s lim st h.sound p p< ((accepts-means s lim st p).says a), used-is s deep some lim b w st h)

      pub push-fits : Pushed (seat s p) (seating s deep p p<) (held_in_all s st - length (st p)) b w (st p) (port-holds s deep some lim b w st h p p<) e r< (used_in s w)
      push-fits = pushes (seat s p) (seating s deep p p<) others b w (st p) P e r< (used_in s w) (omega (arith, used-is s deep some lim b w st h, others-are s deep some lim b w st h p p<)) not-all

      abbrev to : Room
      to = room_with (seat s p) (used_in s w) b w e.rank.0

      push-change : Change s deep some lim b w st h p p< (joined_bits (seat s p) b e (room_with (seat s p) (used_in s w) b w e.rank.0)) (joined_words (seat s p) w e (room_with (seat s p) (used_in s w) b w e.rank.0)) (insert e (st p))
      unfolding room_with port-holds
      push-change =
          record {
            port = push-fits.after;
            else = λ c i n. push-fits.else c i (n e.rank.0 r<);
            bits-long = joined-bits-length (seat s p) b e to;
            words_long = joined_length (seat s p) w e to;
            bits-off = λ i a. joined-bits-away (seat s p) (laid s deep p p<) b e to i r< a;
            words-off = λ i f. joined-foreign (seat s p) (laid s deep p p<) w e to r< (free> not-all) (whole s deep some lim b w st h p p<).free≤ push-fits.fit.tail≤ i f;
            sound = upd-sound s lim h.fair st h.sound p p< (insert e (st p)) (inr (inl (a, insert-length e (st p))));
          }

      pub push-left : Holds s deep some lim (joined_bits (seat s p) b e (room_with (seat s p) (used_in s w) b w e.rank.0)) (joined_words (seat s p) w e (room_with (seat s p) (used_in s w) b w e.rank.0)) (upd st p (insert e (st p)))
      push-left = changed s deep some lim b w st h p p< _ _ (insert e (st p)) push-change

  -- ---- one call

  module _ (x : Store) (st : Lists) (h : Holds s deep some lim x.bits x.words st) where
    abbrev b : List ℕ
    b = x.bits

    abbrev w : List ℕ
    w = x.words

    shape-ok : is_shaped s b w ≡ true
    shape-ok = (shape-means s b w).holds h.shaped

    module _ (p : ℕ) (p< : p < s.ports) where
      whole-ok : is_whole s p b w ≡ true
      whole-ok = (whole-means s p b w).holds (whole s deep some lim b w st h p p<)

      abbrev put : plain.Step (List Element) → Step Said Lists
      put y = back st p y

      -- nothing changes
      stays : (a : Said) (l : List Element) → l ≡ st p → Agree (step a x) (put (plain.step a l))
      stays a l e = record { alike = refl; holds = subst (Holds s deep some lim b w) (put_back st p l e) h }

      pub empty-list : word w (held_at s p) ≡ 0 → st p ≡ []
      empty-list z = none (st p) refl
        where
          none : (m : List Element) → st p ≡ m → st p ≡ []
          none [] e = e
          none (y ∷ m) e = let n : length (st p) ≡ suc (length m) = ap length e in absurd (omega (arith, h.held p p<))

      call-held : Agree (called_at s p held x) (put (plain.step (counted (Ok (length (st p)))) (st p)))
      call-held = record { alike = ap counted (sym (told.held-told s p b w shape-ok p< (length (st p)) whole-ok (sym (h.held p p<)))); holds = subst (Holds s deep some lim b w) (put_back st p (st p) refl) h }

      -- ---- push

      push-agrees : (e : Element) → e.rank.0 < ranks_of s → untagged e ≡ false → Agree (ran (pushed s p b w e)) (put (roomy (accepts s lim st p) (st p) (plain.step (answered (Ok None)) (insert e (st p)))))
      push-agrees e r< t = go (accepts s lim st p) refl
        where
          go : (a : Bool) → accepts s lim st p ≡ a → Agree (ran (pushed s p b w e)) (put (roomy a (st p) (plain.step (answered (Ok None)) (insert e (st p)))))
          go false a = by (pushed s p b w e) (refused Full b w) _ (told.push-full s p b w shape-ok p< e r< t whole-ok (room-is s deep some lim b w st h p p< ∙ a)) (stays (answered (Err Full)) (st p) refl)
          go true a =
              by (pushed s p b w e) _ _
              (told.push-done s p b w shape-ok p< e r< t whole-ok (room-is s deep some lim b w st h p p< ∙ a) (room_of s p b w e.rank.0) refl _ _ ((join-means (seat s p) b w e.rank.0 (used_in s w)).holds (push-fits b w st h p p< e r< a).fit) refl refl)
              (record { alike = refl; holds = push-left b w st h p p< e r< a })

      -- ---- pop

      abbrev Gives : Element → List Element → Type 0
      Gives y l = Popped (seat s p) (seating s deep p p<) (held_in_all s st - length (st p)) b w (st p) (port-holds s deep some lim b w st h p p<) y l

      popping : (word w (held_at s p) ≡ 0 → ⊥) → (y : Element) × (l : List Element) × Gives y l
      popping z = pops (seat s p) (seating s deep p p<) (held_in_all s st - length (st p)) b w (st p) (port-holds s deep some lim b w st h p p<) z

      pub pop-is : (word w (held_at s p) ≡ 0 → ⊥) → (y : Element) (l : List Element) → Gives y l → outcome (Ok (Some y)) (taken_bits (seat s p) b (lowest_of (seat s p) b w)) (taken_words (seat s p) w (lowest_of (seat s p) b w)) ≡ popped s p b w
      pop-is z y l g = told.pop-out s p b w shape-ok p< whole-ok z (lowest_of (seat s p) b w) refl _ _ _ (good b w st h p p< y l g) (sym g.gives) refl refl

      -- what a pop gives is the first of the port's list
      pub pop-first : (y : Element) → (popped s p b w).answer ≡ Ok (Some y) → (l : List Element) × (st p ≡ y ∷ l) × Holds s deep some lim (popped s p b w).bits (popped s p b w).words (upd st p l)
      pop-first y a = elim (ℕ_discrete (word w (held_at s p)) 0) [ yes z ↦ absurd (none z) | no z ↦ gives z (popping z) ]
        where
          none : word w (held_at s p) ≡ 0 → ⊥
          none z = let e : Err Empty ≡ Ok (Some y) = ap (λ (o : Outcome). o.answer) (told.pop-none s p b w shape-ok p< whole-ok z) ∙ a in let n : ◌≡◌ {A = ℕ} 0 1 = cc in omega arith

          gives : (word w (held_at s p) ≡ 0 → ⊥) → (v : Element) × (l : List Element) × Gives v l → (l : List Element) × (st p ≡ y ∷ l) × Holds s deep some lim (popped s p b w).bits (popped s p b w).words (upd st p l)
          gives z g =
              let e : Ok (Some g.0) ≡ Ok (Some y) = ap (λ (o : Outcome). o.answer) (pop-is z g.0 g.1 g.2) ∙ a in
              let q : g.0 ≡ y = cc in
              (g.1, g.2.list ∙ ap (λ (v : Element). v ∷ g.1) q, subst (λ (o : Outcome). Holds s deep some lim o.bits o.words (upd st p g.1)) (pop-is z g.0 g.1 g.2) (pop-left b w st h p p< g.0 g.1 g.2))

      call-pop : Agree (ran (popped s p b w)) (put (plain_pop (st p)))
      call-pop = elim (ℕ_discrete (word w (held_at s p)) 0) [ yes z ↦ none z | no z ↦ gives z (popping z) ]
        where
          none : word w (held_at s p) ≡ 0 → Agree (ran (popped s p b w)) (put (plain_pop (st p)))
          none z =
              subst (λ (l : List Element). Agree (ran (popped s p b w)) (put (plain_pop l))) (sym (empty-list z))
              (by (popped s p b w) (refused Empty b w) _ (told.pop-none s p b w shape-ok p< whole-ok z) (stays (answered (Err Empty)) [] (sym (empty-list z))))

          gives : (word w (held_at s p) ≡ 0 → ⊥) → (y : Element) × (l : List Element) × Gives y l → Agree (ran (popped s p b w)) (put (plain_pop (st p)))
          gives z g =
              subst (λ (l : List Element). Agree (ran (popped s p b w)) (put (plain_pop l))) (sym g.2.list)
              (by (popped s p b w) _ _ (pop-is z g.0 g.1 g.2) (record { alike = refl; holds = pop-left b w st h p p< g.0 g.1 g.2 }))

      -- ---- replace

      module _ (e : Element) (r< : e.rank.0 < ranks_of s) (t : untagged e ≡ false) where
        module _ (z : word w (held_at s p) ≡ 0 → ⊥) (y : Element) (l : List Element) (g : Gives y l) where
          abbrev B : List ℕ
          B = taken_bits (seat s p) b (lowest_of (seat s p) b w)

          abbrev W : List ℕ
          W = taken_words (seat s p) w (lowest_of (seat s p) b w)

          abbrev ts : Lists
          ts = upd st p l

          -- the store as after the pop
          mid : Holds s deep some lim (taken_bits (seat s p) b (lowest_of (seat s p) b w)) (taken_words (seat s p) w (lowest_of (seat s p) b w)) (upd st p l)
          mid = pop-left b w st h p p< y l g

          mid-whole : Whole s p B W
          mid-whole = whole s deep some lim B W ts mid p p<

          -- the freed node makes room, whatever the others hold
          mid-room : accepts s lim ts p ≡ true
          mid-room = (accepts-means s lim ts p).holds (room-again s lim st h.sound p p< y l g.list)

          fits : Pushed (seat s p) (seating s deep p p<) (held_in_all s ts - length (ts p)) B W (ts p) (port-holds s deep some lim B W ts mid p p<) e r< (used_in s W)
          fits = push-fits B W ts mid p p< e r< mid-room

          -- the bucket as replace reads it is the bucket as push reads it
          room-same : room_after s p B W e.rank.0 ≡ room_of s p B W e.rank.0
          unfolding room_after
          room-same = let i = (whole-means s p B W).holds mid-whole in simp i

          replace-is : outcome (Ok (Some y)) (joined_bits (seat s p) B e (room_of s p B W e.rank.0)) (joined_words (seat s p) W e (room_of s p B W e.rank.0)) ≡ replaced s p b w e
          replace-is =
              sym (ap (λ (v : Room). outcome (Ok (Some y)) (joined_bits (seat s p) B e v) (joined_words (seat s p) W e v)) room-same)
              ∙ told.replace-out s p b w shape-ok p< e r< t whole-ok z (lowest_of (seat s p) b w) refl (good b w st h p p< y l g) (room_after s p B W e.rank.0) refl _ _ _ _ _ ((after-means s p B W e.rank.0).holds (mid-whole, fits.fit)) (sym g.gives) refl refl refl refl

          -- .. and the push of the newcomer, on the store as after the pop
          push-mid : outcome (Ok None) (joined_bits (seat s p) B e (room_of s p B W e.rank.0)) (joined_words (seat s p) W e (room_of s p B W e.rank.0)) ≡ pushed s p B W e
          push-mid =
              told.push-done s p B W ((shape-means s B W).holds mid.shaped) p< e r< t ((whole-means s p B W).holds mid-whole) (room-is s deep some lim B W ts mid p p< ∙ mid-room) (room_of s p B W e.rank.0) refl _ _
              ((join-means (seat s p) B W e.rank.0 (used_in s W)).holds fits.fit) refl refl

          pub swaps : Swaps s p x e
          unfolding asked
          swaps =
              let P = sym (pop-is z y l g) in
              let left : pop_leaves s p x ≡ store B W = ap (λ (o : Outcome). store o.bits o.words) P in
              let Q : asked s p (Push e) (pop_leaves s p x) ≡ outcome (Ok None) (joined_bits (seat s p) B e (room_of s p B W e.rank.0)) (joined_words (seat s p) W e (room_of s p B W e.rank.0)) = ap (λ (v : Store). pushed s p v.bits v.words e) left ∙ sym push-mid in
              let A : (asked s p (Replace e) x).answer ≡ (asked s p Pop x).answer = ap (λ (o : Outcome). o.answer) (sym replace-is) ∙ sym (ap (λ (o : Outcome). o.answer) P) in
              record {
                pop = ap (λ (o : Outcome). number_of o.answer) P;
                replace = ap (λ (o : Outcome). number_of o.answer) (sym replace-is);
                rank = ap rank_of A;
                tag = ap tag_of A;
                bytes = ap length_of A;
                push = ap (λ (o : Outcome). number_of o.answer) Q;
                bits = ap (λ (o : Outcome). o.bits) (sym replace-is) ∙ sym (ap (λ (o : Outcome). o.bits) Q);
                words = ap (λ (o : Outcome). o.words) (sym replace-is) ∙ sym (ap (λ (o : Outcome). o.words) Q);
              }

          -- one list changed twice
          twice : upd ts p (insert e (ts p)) ≡ upd st p (insert e l)
          twice = λ i q. at q i
            where
              at : (q : ℕ) → upd ts p (insert e (ts p)) q ≡ upd st p (insert e l) q
              at q = elim (ℕ_discrete q p) [ yes i ↦ here i | no i ↦ (is-upd ts p (insert e (ts p))).else q i ∙ (is-upd st p l).else q i ∙ sym ((is-upd st p (insert e l)).else q i) ]
                where
                  here : q ≡ p → upd ts p (insert e (ts p)) q ≡ upd st p (insert e l) q
                  here i =
                      ap (upd ts p (insert e (ts p))) i ∙ (is-upd ts p (insert e (ts p))).here ∙ ap (insert e) (is-upd st p l).here
                      ∙ sym (is-upd st p (insert e l)).here ∙ ap (upd st p (insert e l)) (sym i)

          swapped : Agree (ran (replaced s p b w e)) (put (plain_replace e (y ∷ l)))
          swapped = by (replaced s p b w e) _ _ replace-is (record { alike = refl; holds = subst (Holds s deep some lim _ _) twice (push-left B W ts mid p p< e r< mid-room) })

        -- with something held a replace is a pop and then a push
        pub swaps-held : (word w (held_at s p) ≡ 0 → ⊥) → Swaps s p x e
        swaps-held z = let g = popping z in swaps z g.0 g.1 g.2

        replace-agrees : Agree (ran (replaced s p b w e)) (put (plain_replace e (st p)))
        replace-agrees = elim (ℕ_discrete (word w (held_at s p)) 0) [ yes z ↦ none z | no z ↦ gives z (popping z) ]
          where
            none : word w (held_at s p) ≡ 0 → Agree (ran (replaced s p b w e)) (put (plain_replace e (st p)))
            none z =
                subst (λ (l : List Element). Agree (ran (replaced s p b w e)) (put (plain_replace e l))) (sym (empty-list z))
                (by (replaced s p b w e) (refused Empty b w) _ (told.replace-none s p b w shape-ok p< e r< t whole-ok z) (stays (answered (Err Empty)) [] (sym (empty-list z))))

            gives : (word w (held_at s p) ≡ 0 → ⊥) → (y : Element) × (l : List Element) × Gives y l → Agree (ran (replaced s p b w e)) (put (plain_replace e (st p)))
            gives z g = subst (λ (l : List Element). Agree (ran (replaced s p b w e)) (put (plain_replace e l))) (sym g.2.list) (swapped z g.0 g.1 g.2)

      -- ---- 4 and 7, of a push and a replace

      newcomer : (e : Element) (o : Outcome) (y : plain.Step (List Element)) → (ranks_of s ≤ e.rank.0 → refused BadRank b w ≡ o) → (e.rank.0 < ranks_of s → untagged e ≡ true → refused NoTag b w ≡ o)
          → (e.rank.0 < ranks_of s → untagged e ≡ false → Agree (ran o) (put y)) → Agree (ran o) (put (plain.ranked (ranks_of s) e (st p) (tagged e (st p) y)))
      newcomer e o y high bare fit = elim (dec_lt e.rank.0 (ranks_of s)) [
        | yes r< ↦ rw (lt-ltb e.rank.0 (ranks_of s) r<) (go r< (untagged e) refl)
        | no r< ↦ rw (le-ltb e.rank.0 (ranks_of s) (omega arith)) (by o (refused BadRank b w) _ (high (omega arith)) (stays (answered (Err BadRank)) (st p) refl))
      ]
        where
          go : e.rank.0 < ranks_of s → (t : Bool) → untagged e ≡ t → Agree (ran o) (put (cond (not t) y (plain.step (answered (Err NoTag)) (st p))))
          go r< true t = by o (refused NoTag b w) _ (bare r< t) (stays (answered (Err NoTag)) (st p) refl)
          go r< false t = fit r< t

      known : (c : Call) → Agree (called_at s p c x) (put (plain_with (ranks_of s) (accepts s lim st p) c (st p)))
      unfolding asked plain_with
      known (ask Idle) = stays (answered (Ok None)) (st p) refl
      known (ask (Push e)) = newcomer e (pushed s p b w e) _ (told.push-high s p b w shape-ok p< e) (told.push-untagged s p b w shape-ok p< e) (push-agrees e)
      known (ask Pop) = call-pop
      known (ask (Replace e)) = newcomer e (replaced s p b w e) _ (told.replace-high s p b w shape-ok p< e) (told.replace-untagged s p b w shape-ok p< e) (replace-agrees e)
      known held = call-held

    unknown : (p : ℕ) → s.ports ≤ p → (c : Call) → Agree (called_at s p c x) (step (denied c BadPort) st)
    unfolding asked
    unknown p l (ask Idle) = record { alike = refl; holds = h }
    unknown p l (ask (Push e)) = by (pushed s p b w e) (refused BadPort b w) _ (told.push-unknown s p b w shape-ok e l) (record { alike = refl; holds = h })
    unknown p l (ask Pop) = by (popped s p b w) (refused BadPort b w) _ (told.pop-unknown s p b w shape-ok l) (record { alike = refl; holds = h })
    unknown p l (ask (Replace e)) = by (replaced s p b w e) (refused BadPort b w) _ (told.replace-unknown s p b w shape-ok e l) (record { alike = refl; holds = h })
    unknown p l held = record { alike = ap counted (sym (told.held-unknown s p b w shape-ok l)); holds = h }

    -- every call
    pub calls : (a : Ask) → Agree (called s a x) (served s lim a st)
    unfolding called
    calls a = elim (dec_lt a.port s.ports) [
      | yes l ↦ rw (served-in s lim a st l) (known a.port l a.call)
      | no l ↦ rw (served-out s lim a st (omega arith)) (unknown a.port (omega arith) a.call)
    ]
