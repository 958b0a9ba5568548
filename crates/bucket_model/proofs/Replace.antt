-- Replace is a pop, and then a push on the store that the pop leaves, word for word: for all inputs.
use Rattle.laws.specs.Prelude.{Answer, BadRank, BadShape, Damaged, Element, Empty, First, Iff, List, NoTag, Pop, Push, Replace, ◌<◌, ◌∙◌, ◌≡◌, ap, arith, fine, inl, inr, number_of, refl, refusal_number, sym, true, ℕ, ⊎_elim, Ok, None, Some}
use Rattle.promise.proofs.Tabled.{Passed, granted, passes}
use Rattle.promise.specs.Prelude.{Untagged, ladder}
use Rattle.bucket_model.specs.Prelude.{Laid, Outcome, Reached, Shaped, HoldsSome, Store, Whole, asked, bits_after, call_table, given, is_whole, joined_bits, joined_words, lowest_of, outcome, pop_leaves, room_after, room_of, store, words_after}
use Rattle.bucket_model.specs.Layout.{Lay}
use Rattle.bucket_model.specs.Calls.{Room}
use Rattle.bucket_model.proofs.Exactly.{exactly-pop, exactly-replace, goes}
use Rattle.bucket_model.proofs.Facts.{whole-means}
use Rattle.bucket_model.proofs.Taken.{held_after}
use Rattle.bucket_model.proofs.Queue.{shaped-after}
use Rattle.bucket_model.proofs.Pop.{taken-length, taken-bits-length}
use Rattle.bucket_model.proofs.Promises.{reuse}

-- the bucket as replace reads it is the bucket as push reads it
same-room : (k : Lay) (b w : List ℕ) (e : Element) → is_whole k b w ≡ true → room_after k b w e.rank.0 ≡ room_of k b w e.rank.0
unfolding room_after
same-room k b w e t = simp t

module _ (k : Lay) (s : Store) where
  abbrev b : List ℕ
  b = s.bits

  abbrev w : List ℕ
  w = s.words

  -- the store as after the pop
  abbrev B : List ℕ
  B = bits_after k s.bits s.words

  abbrev W : List ℕ
  W = words_after k s.bits s.words

  pop-leaves : Passed (call_table k s.bits s.words Pop) → pop_leaves k s ≡ store (bits_after k s.bits s.words) (words_after k s.bits s.words)
  pop-leaves p = ap (λ (o : Outcome). store o.bits o.words) (passes (goes k b w Pop) p)

  module _ (e x : Element) where
    -- what a replace that gives something has asked: a pop asks no more
    swaps : (asked k (Replace e) s).answer ≡ Ok (Some x) → Passed (call_table k s.bits s.words (Replace e))
    swaps a = granted (goes k b w (Replace e)) (ap number_of a)

    abbrev as-pop : Passed (call_table k s.bits s.words (Replace e)) → Passed (call_table k s.bits s.words Pop)
    as-pop p = let g = p.1.1.1 in (p.0, (g.0, (g.1.0, (g.1.1.0, tt))))

    -- what a replace gives is what a pop gives
    pub replace-answers : (asked k (Replace e) s).answer ≡ Ok (Some x) → (asked k Pop s).answer ≡ Ok (Some x)
    replace-answers a =
        ap (λ (o : Outcome). o.answer) (passes (goes k b w Pop) (as-pop (swaps a))) ∙ sym (ap (λ (o : Outcome). o.answer) (passes (goes k b w (Replace e)) (swaps a))) ∙ a

    -- "a replace is a pop and then a push": the pop's answer, and what the push leaves of the store that the pop left, wherever that push is done
    pub replace-both : (asked k Pop s).answer ≡ Ok (Some x) → (asked k (Push e) (pop_leaves k s)).answer ≡ Ok None → asked k (Replace e) s ≡ outcome (Ok (Some x)) (asked k (Push e) (pop_leaves k s)).bits (asked k (Push e) (pop_leaves k s)).words
    replace-both a d =
        let p = granted (goes k b w Pop) (ap number_of a) in
        let l = pop-leaves p in
        let t = granted (goes k B W (Push e)) (ap (λ (v : Store). number_of (asked k (Push e) v).answer) (sym l) ∙ ap number_of d) in
        let h = t.1.1.1 in
        passes (goes k b w (Replace e)) (p.0, (t.1.0, (t.1.1.0, (p.1.0, (p.1.1.0, (p.1.1.1.0, ((h.0, h.1.1.0), tt)))))))
        ∙ ap (λ (v : Room). outcome (Ok (Some (given k w (lowest_of k b w)))) (joined_bits k B e v) (joined_words k W e v)) (same-room k B W e ((whole-means k B W).holds h.0))
        ∙ ap (λ (y : Answer). outcome y (joined_bits k B e (room_of k B W e.rank.0)) (joined_words k W e (room_of k B W e.rank.0))) (sym (ap (λ (o : Outcome). o.answer) (passes (goes k b w Pop) p)) ∙ a)
        ∙ ap (λ (o : Outcome). outcome (Ok (Some x)) o.bits o.words) (sym (passes (goes k B W (Push e)) t))
        ∙ ap (λ (v : Store). outcome (Ok (Some x)) (asked k (Push e) v).bits (asked k (Push e) v).words) (sym l)

    -- .. and it is done exactly where the replace gives something
    pub replace-pushes : Laid k → (asked k (Replace e) s).answer ≡ Ok (Some x) → (asked k (Push e) (pop_leaves k s)).answer ≡ Ok None
    replace-pushes laid a =
        let p = swaps a in
        let g = p.1.1.1 in
        let low = lowest_of k b w in
        let h = g.1.1.1.0 in
        ap (λ (v : Store). (asked k (Push e) v).answer) (pop-leaves (as-pop p))
        ∙ ap (λ (o : Outcome). o.answer) (passes (goes k B W (Push e)) (
          shaped-after k b w B W (taken-bits-length k b low) (taken-length k w low) p.0,
          (p.1.0, (p.1.1.0, (h.0, ((λ z. g.1.0 (omega (arith, held_after k laid w low p.0.words, g.0.held≤))), (h.1, tt))))),
        ))

-- .. so on a store that the queue's own calls lead to always
pub replace-swaps : (k : Lay) → Laid k → (s : Store) (e x : Element) → Reached k s → e.rank.0 < k.ranks → (Untagged (Replace e) → ⊥) → (asked k Pop s).answer ≡ Ok (Some x)
    → asked k (Replace e) s ≡ outcome (Ok (Some x)) (asked k (Push e) (pop_leaves k s)).bits (asked k (Push e) (pop_leaves k s)).words
replace-swaps k laid s e x h e< t a = replace-both k s e x a (reuse k laid s x e h a e< t).taken

-- ---- "an empty queue refuses replace with 6"; "The order of checks puts replace's 6 with pop's"

no-shape : Empty ≡ BadShape → ⊥
no-shape e = let z : ◌≡◌ {A = ℕ} 6 1 = ap refusal_number e in omega arith

no-damage : Empty ≡ Damaged → ⊥
no-damage e = let z : ◌≡◌ {A = ℕ} 6 2 = ap refusal_number e in omega arith

no-rank : Empty ≡ BadRank → ⊥
no-rank e = let z : ◌≡◌ {A = ℕ} 6 4 = ap refusal_number e in omega arith

no-untagged : Empty ≡ NoTag → ⊥
no-untagged e = let z : ◌≡◌ {A = ℕ} 6 7 = ap refusal_number e in omega arith

module _ (k : Lay) (b w : List ℕ) where
  -- both say 6 of a store that is whole, with nothing held
  abbrev Bare : Type 0
  Bare = Shaped k b w × Whole k b w × (HoldsSome k b w → ⊥)

  pop-bare : First (ladder (call_table k b w Pop) fine) Empty → Bare
  pop-bare u =
      ⊎_elim (λ v. absurd (no-shape v.1)) (λ x. ⊎_elim (λ v. absurd (no-damage v.1)) (λ y. ⊎_elim (λ v. (x.0, y.0, v.0)) (λ z. ⊎_elim (λ v. absurd (no-damage v.1)) (λ v. absurd v.1) z.1) y.1) x.1) u

  replace-bare : (e : Element) → First (ladder (call_table k b w (Replace e)) fine) Empty → Bare
  replace-bare e u =
      ⊎_elim (λ v. absurd (no-shape v.1))
      (λ x. ⊎_elim (λ v. absurd (no-rank v.1))
      (λ l. ⊎_elim (λ v. absurd (no-untagged v.1))
      (λ n. ⊎_elim (λ v. absurd (no-damage v.1))
      (λ y. ⊎_elim (λ v. (x.0, y.0, v.0)) (λ z. ⊎_elim (λ v. absurd (no-damage v.1)) (λ t. ⊎_elim (λ v. absurd (no-damage v.1)) (λ v. absurd v.1) t.1) z.1) y.1) n.1) l.1) x.1) u

-- replace's 6 is where the pop's is
pub replace-empty : (k : Lay) (s : Store) (e : Element) → e.rank.0 < k.ranks → (Untagged (Replace e) → ⊥) → Iff (number_of (asked k (Replace e) s).answer ≡ 6) (number_of (asked k Pop s).answer ≡ 6)
unfolding asked
replace-empty k s e l n =
    let b = s.bits in
    let w = s.words in
    let pop = exactly-pop k b w in
    let replace = exactly-replace k b w e in
    record {
      to = λ a. let x = replace-bare k b w e (replace.only Empty a) in ap (λ (o : Outcome). number_of o.answer) (pop.always Empty (inr (x.0, inr (x.1, inl (x.2, refl)))));
      from = λ a. let x = pop-bare k b w (pop.only Empty a) in ap (λ (o : Outcome). number_of o.answer) (replace.always Empty (inr (x.0, inr (l, inr (n, inr (x.1, inl (x.2, refl)))))));
    }
