-- A store that holds a list does what the plain list does, call by call, and its list is read off its words.
use Rattle.laws.specs.Prelude.{All, BadRank, Bool, Element, Empty, Full, Idle, List, NoTag, Pop, Push, Replace, [], ◌<◌, ◌∙◌, ◌∷◌, ◌≡◌, ◌≤◌, ap, arith, dec_lt, false, le-ltb, length, lt-ltb, ltb, refl, subst, suc, sym, true, untagged, zero, ℕ, ℕ_discrete, Ok, None, Some, Err}
use Rattle.bucket_model.specs.Prelude.{Call, Laid, Load, Outcome, Said, Step, Store, after, answered, ask, asked, called, counted, head_at, held, insert, is_shaped, is_whole, joined_bits, joined_words, lane, load_in, lowest_of, next_in, outcome, plain, plain_after, plain_pop, plain_replace, plain_says, plain_with, popped, pushed, refused, replaced, room_after, room_of, roomy, says, step, store, stored, tagged, taken_bits, taken_words, walk, word}
use Rattle.bucket_model.specs.Layout.{Lay}
use Rattle.bucket_model.specs.Calls.{Room}
use Rattle.bucket_model.proofs.Returns as told
use Rattle.bucket_model.proofs.Facts.{shape-means, whole-means, pop-means, push-means, room-means}
use Rattle.bucket_model.proofs.Chain.{Node, Seg, Mine}
use Rattle.bucket_model.proofs.Order.{order-else}
use Rattle.bucket_model.proofs.Queue.{loads, Seat, alone, HoldsIn, Holds, whole, chain_of, lane-le}
use Rattle.bucket_model.proofs.Pop.{Popped, pops}
use Rattle.bucket_model.proofs.Push.{Pushed, pushes}

-- ---- the list is read off the words

walk_none : (stem : ℕ) (w : List ℕ) (i : ℕ) → walk stem w i 0 ≡ []
unfolding walk
walk_none stem w zero = refl
walk_none stem w (suc i) = refl

walk-one : (stem : ℕ) (w : List ℕ) (i l : ℕ) → 1 ≤ l → walk stem w (suc i) l ≡ load_in stem w l ∷ walk stem w i (word w (next_in stem l))
unfolding walk
walk-one stem w i zero h = absurd (omega arith)
walk-one stem w i (suc l) h = refl

-- the walk along a chain meets its loads
pub walks : (stem : ℕ) (w : List ℕ) (n : ℕ) (own : ℕ → ℕ) (c p i : ℕ) (xs : List Node) → Seg stem w p xs → All (Mine own n c) xs → length xs ≤ i → walk stem w i (word w p) ≡ loads xs
walks stem w n own c p i [] z a h = ap (walk stem w i) z ∙ walk_none stem w i
walks stem w n own c p zero (x ∷ xs) z a h = absurd (omega arith)
walks stem w n own c p (suc i) (x ∷ xs) z a h =
    ap (walk stem w (suc i)) z.0 ∙ walk-one stem w i x.link a.0.low
    ∙ ap (λ (t : Load). t ∷ walk stem w i (word w (next_in stem x.link))) z.1
    ∙ ap (λ (ts : List Load). x.load ∷ ts) (walks stem w n own c (next_in stem x.link) i xs z.2 a.1 (omega arith))

module _ (k : Lay) (S : Seat k) (others : ℕ) where
  -- rank by rank
  pub lane-is : (b w : List ℕ) (l : List Element) (h : HoldsIn k S others b w l) (r : ℕ) → r < k.ranks → lane k w r ≡ loads (h.q (head_at k r))
  lane-is b w l h r r< =
      let c = chain_of k S others b w l h r r< in
      walks k.stem w k.nodes h.own (head_at k r) (head_at k r) k.nodes (h.q (head_at k r)) c.seg c.mine (omega (arith, lane-le k S others b w l h r r<, h.room))

  pub stored_is : (b w : List ℕ) (l : List Element) → HoldsIn k S others b w l → stored k w ≡ l
  unfolding stored
  stored_is b w l h = order-else (λ r. loads (h.q (head_at k r))) (lane k w) 0 k.ranks (λ j a c. lane-is b w l h j (omega arith)) ∙ sym h.is

-- ---- one call

module _ (k : Lay) (laid : Laid k) where
  -- the words and the list say alike, and the words hold the list again
  pub record Agree (x : Step Store) (y : Step (List Element)) : Type 0 where
    pub alike : x.said ≡ y.said
    pub holds : Holds k laid x.next.bits x.next.words y.next

  abbrev ran : Outcome → Step Store
  ran o = step (answered o.answer) (store o.bits o.words)

  by : (o o' : Outcome) (y : Step (List Element)) → o ≡ o' → Agree (ran o') y → Agree (ran o) y
  by o o' y e a = subst (λ (o : Outcome). Agree (ran o) y) (sym e) a

  module _ (s : Store) (l : List Element) (h : Holds k laid s.bits s.words l) where
    abbrev b : List ℕ
    b = s.bits

    abbrev w : List ℕ
    w = s.words

    shape-ok : is_shaped k b w ≡ true
    shape-ok = (shape-means k b w).holds h.shaped

    whole-ok : is_whole k b w ≡ true
    whole-ok = (whole-means k b w).holds (whole k laid b w l h)

    pub empty-list : word w k.held ≡ 0 → l ≡ []
    empty-list z = none l refl
      where
        none : (m : List Element) → l ≡ m → l ≡ []
        none [] e = e
        none (x ∷ m) e = let n : length l ≡ suc (length m) = ap length e in absurd (omega (arith, h.held))

    -- nothing changes
    stays : (a : Said) → Agree (step a s) (step a l)
    stays a = record { alike = refl; holds = h }

    call-held : Agree (called k held s) (plain k held l)
    unfolding called plain_with
    call-held = record { alike = ap counted (sym (told.held-told k b w (length l) shape-ok whole-ok (sym h.held))); holds = h }

    -- ---- push

    module _ (e : Element) (r< : e.rank.0 < k.ranks) (t : untagged e ≡ false) where
      pub push-is : (word w k.held ≡ k.nodes → ⊥) → Pushed k (alone k laid) 0 b w l h e r< (word w k.held) → pushed k b w e ≡ outcome (Ok None) (joined_bits k b e (room_of k b w e.rank.0)) (joined_words k w e (room_of k b w e.rank.0))
      push-is f p = sym (told.push-done k b w e shape-ok r< t whole-ok f (room_of k b w e.rank.0) refl _ _ ((push-means k b w e.rank.0).holds p.fit) refl refl)

      push-agrees : Agree (ran (pushed k b w e)) (roomy (ltb (length l) k.nodes) l (step (answered (Ok None)) (insert e l)))
      push-agrees = elim (ℕ_discrete (word w k.held) k.nodes) [ yes f ↦ full f | no f ↦ taken f (pushes k (alone k laid) 0 b w l h e r< (word w k.held) (omega (arith, h.held)) f) ]
        where
          full : word w k.held ≡ k.nodes → Agree (ran (pushed k b w e)) (roomy (ltb (length l) k.nodes) l (step (answered (Ok None)) (insert e l)))
          full f =
              rw (le-ltb (length l) k.nodes (omega (arith, h.held)))
              (by (pushed k b w e) (refused Full b w) (step (answered (Err Full)) l) (sym (told.push-full k b w e shape-ok r< t whole-ok f)) (stays (answered (Err Full))))

          taken : (word w k.held ≡ k.nodes → ⊥) → Pushed k (alone k laid) 0 b w l h e r< (word w k.held) → Agree (ran (pushed k b w e)) (roomy (ltb (length l) k.nodes) l (step (answered (Ok None)) (insert e l)))
          taken f p =
              rw (lt-ltb (length l) k.nodes (omega (arith, h.held, h.room)))
              (by (pushed k b w e) _ (step (answered (Ok None)) (insert e l)) (push-is f p) (record { alike = refl; holds = p.after }))

    call-push : (e : Element) → Agree (ran (pushed k b w e)) (plain k (ask (Push e)) l)
    unfolding plain_with
    call-push e = elim (dec_lt e.rank.0 k.ranks) [
      | yes r< ↦ rw (lt-ltb e.rank.0 k.ranks r<) (go r< (untagged e) refl)
      | no r< ↦ rw (le-ltb e.rank.0 k.ranks (omega arith)) (by (pushed k b w e) (refused BadRank b w) (step (answered (Err BadRank)) l) (sym (told.push-high k b w e shape-ok (omega arith))) (stays (answered (Err BadRank))))
    ]
      where
        put : Step (List Element)
        put = roomy (ltb (length l) k.nodes) l (step (answered (Ok None)) (insert e l))

        go : e.rank.0 < k.ranks → (t : Bool) → untagged e ≡ t → Agree (ran (pushed k b w e)) (tagged e l put)
        go r< true t = rw t (by (pushed k b w e) (refused NoTag b w) (step (answered (Err NoTag)) l) (sym (told.push-untagged k b w e shape-ok r< t)) (stays (answered (Err NoTag))))
        go r< false t = rw t (push-agrees e r< t)

    -- ---- pop, and replace with something held

    module _ (some : word w k.held ≡ 0 → ⊥) (x : Element) (l' : List Element) (p : Popped k (alone k laid) 0 b w l h x l') where
      abbrev B : List ℕ
      B = taken_bits k b (lowest_of k b w)

      abbrev W : List ℕ
      W = taken_words k w (lowest_of k b w)

      good : (lowest_of k b w).good ≡ true
      good = (pop-means k b w).holds p.fit

      pub pop-is : popped k b w ≡ outcome (Ok (Some x)) (taken_bits k b (lowest_of k b w)) (taken_words k w (lowest_of k b w))
      pop-is = sym (told.pop-out k b w shape-ok whole-ok some (lowest_of k b w) refl _ _ _ good refl refl refl) ∙ ap (λ (y : Element). outcome (Ok (Some y)) B W) p.gives

      module _ (e : Element) (r< : e.rank.0 < k.ranks) where
        -- the bucket as replace reads it is the bucket as push reads it
        room-same : room_after k B W e.rank.0 ≡ room_of k B W e.rank.0
        unfolding room_after
        room-same = let t = (whole-means k B W).holds (whole k laid B W l' p.after) in simp t

        pub swap_is : untagged e ≡ false → Pushed k (alone k laid) 0 B W l' p.after e r< (word W k.held) → replaced k b w e ≡ outcome (Ok (Some x)) (joined_bits k B e (room_of k B W e.rank.0)) (joined_words k W e (room_of k B W e.rank.0))
        swap_is t u =
            let to = room_after k B W e.rank.0 in
            sym (told.replace-out k b w e shape-ok r< t whole-ok some (lowest_of k b w) refl good to refl _ _ _ _ _ ((room-means k B W e.rank.0).holds (whole k laid B W l' p.after, u.fit)) refl refl refl refl refl)
            ∙ ap (λ (y : Element). outcome (Ok (Some y)) (joined_bits k B e to) (joined_words k W e to)) p.gives
            ∙ ap (λ (v : Room). outcome (Ok (Some x)) (joined_bits k B e v) (joined_words k W e v)) room-same

        -- the freed node makes room
        pub room-again : word W k.held ≡ k.nodes → ⊥
        room-again f = let n : length l ≡ suc (length l') = ap length p.list in omega (arith, p.after.held, h.room)

        swap-agrees : untagged e ≡ false → Agree (ran (replaced k b w e)) (plain_replace e (x ∷ l'))
        swap-agrees t =
            let u = pushes k (alone k laid) 0 B W l' p.after e r< (word W k.held) (omega (arith, p.after.held)) room-again in
            by (replaced k b w e) _ (step (answered (Ok (Some x))) (insert e l')) (swap_is t u) (record { alike = refl; holds = u.after })

    call-pop : Agree (ran (popped k b w)) (plain_pop l)
    call-pop = elim (ℕ_discrete (word w k.held) 0) [
      | yes z ↦ rw (empty-list z) (by (popped k b w) (refused Empty b w) (step (answered (Err Empty)) []) (sym (told.pop-none k b w shape-ok whole-ok z)) (record { alike = refl; holds = subst (Holds k laid b w) (empty-list z) h }))
      | no z ↦ some z (pops k (alone k laid) 0 b w l h z)
    ]
      where
        some : (word w k.held ≡ 0 → ⊥) → (x : Element) × (l' : List Element) × Popped k (alone k laid) 0 b w l h x l' → Agree (ran (popped k b w)) (plain_pop l)
        some z y =
            rw y.2.list (by (popped k b w) _ (step (answered (Ok (Some y.0))) y.1) (pop-is z y.0 y.1 y.2) (record { alike = refl; holds = y.2.after }))

    replace-agrees : (e : Element) → e.rank.0 < k.ranks → untagged e ≡ false → Agree (ran (replaced k b w e)) (plain_replace e l)
    replace-agrees e r< t = elim (ℕ_discrete (word w k.held) 0) [
      | yes z ↦ rw (empty-list z) (by (replaced k b w e) (refused Empty b w) (step (answered (Err Empty)) []) (sym (told.replace-none k b w e shape-ok r< t whole-ok z)) (record { alike = refl; holds = subst (Holds k laid b w) (empty-list z) h }))
      | no z ↦ some z (pops k (alone k laid) 0 b w l h z)
    ]
      where
        some : (word w k.held ≡ 0 → ⊥) → (x : Element) × (l' : List Element) × Popped k (alone k laid) 0 b w l h x l' → Agree (ran (replaced k b w e)) (plain_replace e l)
        some z y = rw y.2.list (swap-agrees z y.0 y.1 y.2 e r< t)

    call-replace : (e : Element) → Agree (ran (replaced k b w e)) (plain k (ask (Replace e)) l)
    unfolding plain_with
    call-replace e = elim (dec_lt e.rank.0 k.ranks) [
      | yes r< ↦ rw (lt-ltb e.rank.0 k.ranks r<) (go r< (untagged e) refl)
      | no r< ↦ rw (le-ltb e.rank.0 k.ranks (omega arith)) (by (replaced k b w e) (refused BadRank b w) (step (answered (Err BadRank)) l) (sym (told.replace-high k b w e shape-ok (omega arith))) (stays (answered (Err BadRank))))
    ]
      where
        go : e.rank.0 < k.ranks → (t : Bool) → untagged e ≡ t → Agree (ran (replaced k b w e)) (tagged e l (plain_replace e l))
        go r< true t = rw t (by (replaced k b w e) (refused NoTag b w) (step (answered (Err NoTag)) l) (sym (told.replace-untagged k b w e shape-ok r< t)) (stays (answered (Err NoTag))))
        go r< false t = rw t (replace-agrees e r< t)

    -- every call
    pub calls : (c : Call) → Agree (called k c s) (plain k c l)
    unfolding called asked plain_with
    calls (ask Idle) = stays (answered (Ok None))
    calls (ask (Push e)) = call-push e
    calls (ask Pop) = call-pop
    calls (ask (Replace e)) = call-replace e
    calls held = call-held

  -- ---- any list of calls

  pub says-alike : (cs : List Call) (s : Store) (l : List Element) → Holds k laid s.bits s.words l → says k cs s ≡ plain_says k cs l
  unfolding says plain_says
  says-alike [] s l h = refl
  says-alike (c ∷ cs) s l h =
      let a = calls s l h c in
      ap (λ (x : Said). x ∷ says k cs (called k c s).next) a.alike ∙ ap (λ (xs : List Said). (plain k c l).said ∷ xs) (says-alike cs (called k c s).next (plain k c l).next a.holds)

  pub after_holds : (cs : List Call) (s : Store) (l : List Element) → Holds k laid s.bits s.words l → Holds k laid (after k cs s).bits (after k cs s).words (plain_after k cs l)
  unfolding after plain_after
  after_holds [] s l h = h
  after_holds (c ∷ cs) s l h = after_holds cs (called k c s).next (plain k c l).next (calls s l h c).holds
