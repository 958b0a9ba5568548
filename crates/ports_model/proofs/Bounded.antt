-- On any words, whatever stands in them: a call that is not refused finds every port within its ceiling and what is claimed within N, and leaves them so.
use Rattle.laws.specs.Prelude.{Element, Idle, List, Pop, Push, Replace, Request, [], ◌++◌, ◌+◌, ◌-◌, ◌<◌, ◌^◌, ◌∷◌, ◌≡◌, ◌≤◌, ◌⊎◌, ap, arith, dec_lt, inl, inr, length, length-set, max, ℕ, ℕ_discrete}
use Rattle.promise.proofs.Tabled.{Passed, either}
use Rattle.bucket_model.specs.declared.Lay.{Lay}
use Rattle.bucket_model.specs.Calls as found
use Rattle.bucket_model.specs.Prelude.{Outcome, Store, joined_words, link_at, load_of, load_writes, lowest_of, next_at, tail_at, word, write}
use Rattle.bucket_model.proofs.Laws.{held_after, joined_length, same, taken-length}
use Rattle.ports_model.specs.Prelude.{Bounds, Framed, Room, Shape, Shaped, Whole, asked, bits_after, call_table, ceiling_at, claimed_in, done, floor_at, held_at, room_after, room_of, seat, words_after}
use Rattle.ports_model.proofs.Exactly.{goes}
use Rattle.ports_model.proofs.Frame.{push-framed, pop-framed, replace-framed}
use Rattle.ports_model.proofs.Places.{laid}
use Rattle.ports_model.proofs.Sums.{to-upd}

-- a push's last write is held
joined-held : (k : Lay) (w : List ℕ) (e : Element) (to : found.Room) → k.held < length w → word (joined_words k w e to) k.held ≡ word w k.held + 1
unfolding joined_words
joined-held k w e to l =
    let free = word w k.free in
    let v = write w ((k.free, to.next) ∷ (load_writes k.stem free (load_of e) ++ (next_at k free, 0) ∷ (link_at k e.rank.0 to.tail, free) ∷ (tail_at k e.rank.0, free) ∷ [])) in
    same v k.held (word w k.held + 1) (omega (arith, length-set v k.held (word w k.held + 1), joined_length k w e to))

module _ (s : Shape) (p : ℕ) (b w : List ℕ) where
  -- port p holds one less, as many, or one more where there is room
  abbrev Fits : ℕ → Type 0
  Fits n = (n ≤ word w (held_at s p)) ⊎ ((n ≡ word w (held_at s p) + 1) × Room s p w)

  module _ (p< : p < s.ports) (h : Whole s p b w) (o : Outcome) (f : Framed s p b w o) (fits : Fits (word o.words (held_at s p))) where
    abbrev n : ℕ
    n = word o.words (held_at s p)

    held-else : (q : ℕ) → (q ≡ p → ⊥) → word o.words (held_at s q) ≡ word w (held_at s q)
    held-else q m = elim (dec_lt q s.ports) [ yes l ↦ f.held q l m | no l ↦ f.words-rest (held_at s q) (omega arith) ]

    floor-else : (q : ℕ) → word o.words (floor_at s q) ≡ word w (floor_at s q)
    floor-else q = elim (dec_lt q s.ports) [ yes l ↦ f.floors q l | no l ↦ f.words-rest (floor_at s q) (omega arith) ]

    sum : claimed_in s o.words + max (word w (held_at s p)) (word w (floor_at s p)) ≡ claimed_in s w + max (word o.words (held_at s p)) (word w (floor_at s p))
    sum =
        to-upd s.ports (λ q. max (word w (held_at s q)) (word w (floor_at s q))) (λ q. max (word o.words (held_at s q)) (word o.words (floor_at s q))) p (max n (word w (floor_at s p)))
        (record { here = ap (max n) (floor-else p); else = λ j d i. max (held-else j d i) (floor-else j i) }) p<

    own-ceiling : word o.words (held_at s p) ≤ word w (ceiling_at s p)
    own-ceiling = go fits
      where
        go : Fits (word o.words (held_at s p)) → word o.words (held_at s p) ≤ word w (ceiling_at s p)
        go (inl l) = omega (arith, h.ceilings p p<)
        go (inr (e, inl l)) = omega (arith, h.floors p p<)
        go (inr (e, inr l)) = omega (arith, l.0)

    claims : claimed_in s o.words ≤ s.nodes
    claims = go fits
      where
        go : Fits (word o.words (held_at s p)) → claimed_in s o.words ≤ s.nodes
        go (inl l) = omega (arith, sum, h.claims)
        go (inr (e, inl l)) = omega (arith, sum, h.claims)
        go (inr (e, inr l)) = omega (arith, sum, h.claims, l.1)

    within : Bounds s o.words
    within =
        record {
          ceilings = λ q q<. elim (ℕ_discrete q p) [ yes i ↦ own q i | no i ↦ omega (arith, held-else q i, f.ceilings q q<, h.ceilings q q<) ];
          claims = claims;
        }
      where
        own : (q : ℕ) → q ≡ p → word o.words (held_at s q) ≤ word o.words (ceiling_at s q)
        own q i = rw i (omega (arith, own-ceiling, f.ceilings p p<))

  -- how many port p holds then
  module _ (h : Shaped s b w) (p< : p < s.ports) where
    taken-held : word (words_after s p b w) (held_at s p) ≡ word w (held_at s p) - 1
    taken-held = held_after (seat s p) (laid s (omega (arith, h.two)) p p<) w (lowest_of (seat s p) b w) (omega (arith, h.words, p<))

    fits-done : (q : Request) → Passed (call_table s p b w q) → Fits (word (done s p b w q).words (held_at s p))
    fits-done Idle t = inl (omega arith)
    fits-done (Push e) t = inr (joined-held (seat s p) w e (room_of s p b w e.rank.0) (omega (arith, h.words, p<)), t.1.1.1.1.1.0)
    fits-done Pop t = inl (omega (arith, taken-held))
    -- one less, and one more again
    fits-done (Replace e) t =
        let W = words_after s p b w in
        let z = t.1.1.1.1.1.0 in
        inl (omega (arith, joined-held (seat s p) W e (room_after s p (bits_after s p b w) W e.rank.0) (omega (arith, h.words, p<, taken-length (seat s p) w (lowest_of (seat s p) b w))), taken-held))

-- BOUNDED: no request at any port breaks them, on any words
pub bounded : (s : Shape) (p : ℕ) (x : Store) → ((i : ℕ) → word x.bits i < 2 ^ 64) → Bounds s x.words → (q : Request) → Bounds s (asked s p q x).words
bounded s p x fits z q = either (goes s p b w q) (λ (o : Outcome). Bounds s o.words) (λ r. z) (go q)
  where
    b : List ℕ
    b = x.bits

    w : List ℕ
    w = x.words

    go : (q : Request) → Passed (call_table s p x.bits x.words q) → Bounds s (done s p x.bits x.words q).words
    go Idle t = z
    go (Push e) t = within s p b w t.1.0 t.1.1.1.1.0 _ (push-framed s p b w e t) (fits-done s p b w t.0 t.1.0 (Push e) t)
    go Pop t = within s p b w t.1.0 t.1.1.0 _ (pop-framed s p b w fits t) (fits-done s p b w t.0 t.1.0 Pop t)
    go (Replace e) t = within s p b w t.1.0 t.1.1.1.1.0 _ (replace-framed s p b w fits e t) (fits-done s p b w t.0 t.1.0 (Replace e) t)
