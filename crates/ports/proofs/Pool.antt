-- From what a call has tested to what its next step asks for, and to what the rules answer.
use Rattle.laws.specs.Prelude.{Bool, Bool·beq, List, ◌&&◌, ◌*◌, ◌+◌, ◌-◌, ◌<◌, ◌∙◌, ◌≡◌, ◌≤◌, and_left, and_right, arith, eqb, le-leb, length, ltb, ltb-true, max, ne_eqb, refl, subst, sym, true, ℕ, ℕ_discrete}
use Rattle.bucket_model.specs.declared.Lay.{Lay}
use Rattle.bucket_model.specs.Calls.{Lowest}
use Rattle.bucket_model.specs.Calls.{Room}
use Rattle.bucket_model.specs.Prelude.{Laid, room_with, taken_bits, taken_words, word}
use Rattle.bucket_model.proofs.Laws.{free-after, held_after, taken-foreign}
use Rattle.bucket_step.specs.Tested.{Stands, Roomy, Freeing, FoundRoom, room_freed}
use Rattle.bucket_step.proofs.Read.{freed-is, node-after}
use Rattle.bucket_step.specs.Stores.{Joining}
use Rattle.bucket_step.proofs.Steps as steps
use Rattle.ports_model.specs.declared.Shape.{Shape}
use Rattle.ports_model.specs.Prelude.{Shaped, Whole, ceiling_at, claimed_in, floor_at, free_at, has_room, held_at, is_shaped, is_whole, limits_kept, room_after, room_ok, seat, used_in, whole_ok}
use Rattle.ports_model.proofs.Laws.{foreign-ceiling, foreign-floor, foreign-held, free-some, kept-means, laid, room-means, room-used, shape-means, shaped-at, to_le, to_part, to-upd, whole-means}
use Rattle.ports_step.specs.declared.Totals.{Totals}
use Rattle.ports_step.specs.Sums.{Summed, Numbers, whole_by, room_by}

-- ---- what a known port is

pub record Known (s : Shape) (p : ℕ) (b w : List ℕ) : Type 0 where
  pub both : (is_shaped s b w && ltb p s.ports) ≡ true

module _ (s : Shape) (p : ℕ) (b w : List ℕ) where
  pub shape-ok : Known s p b w → is_shaped s b w ≡ true
  shape-ok k = and_left (is_shaped s b w) (ltb p s.ports) k.both

  pub port-ok : Known s p b w → ltb p s.ports ≡ true
  port-ok k = and_right (is_shaped s b w) (ltb p s.ports) k.both

  pub shaped : Known s p b w → Shaped s b w
  shaped k = (shape-means s b w).says (shape-ok k)

  pub port< : Known s p b w → p < s.ports
  port< k = ltb-true p s.ports (port-ok k)

  pub numbers : Known s p b w → Numbers s
  numbers k = let h = shaped k in record { two = h.two; three = h.three; low = h.low; high = h.high; some = h.some; few = h.few }

  pub lay : Known s p b w → Laid (seat s p)
  lay k = laid s (let h = shaped k in omega (arith, h.two)) p (port< k)

  pub stands : (k : Lay) → k ≡ seat s p → Known s p b w → Stands k b w
  stands k e h = subst (λ (k : Lay). Stands k b w) (sym e) (record { laid = lay h; shaped = shaped-at s (let z = shaped h in omega (arith, z.two)) p (port< h) b w (shaped h) })

  -- the ports' words are all there
  pub all_there : (k : Lay) → k ≡ seat s p → Known s p b w → k.free + (1 + 3 * s.ports) ≤ length w
  all_there k e h = rw e (shaped h).words

  pub limits-there : (k : Lay) → k ≡ seat s p → Known s p b w → k.held + 2 < length w
  limits-there k e h = rw e (omega (arith, (shaped h).words, port< h))

-- ---- the tests made with the sums are those of the rules

module _ (s : Shape) (p : ℕ) (b w : List ℕ) (k : Lay) (e : k ≡ seat s p) (t : Totals) (z : Summed w k.free s.ports t) where
  at-seat : Summed w (free_at s) s.ports t
  at-seat = subst (λ (k : Lay). Summed w k.free s.ports t) e z

  pub used-is : t.used ≡ used_in s w
  used-is = at-seat.used

  pub whole_by_lem : whole_by k t b w ≡ is_whole s p b w
  whole_by_lem = (λ i. whole_by (e i) t b w) ∙ (λ i. whole_ok (at-seat.kept i) (at-seat.claimed i) (at-seat.used i) (word w (free_at s)) (word b (seat s p).bits) (word w (held_at s p)) s.nodes)

  pub room_by_lem : room_by k t w ≡ has_room s p w
  room_by_lem =
      let f : held_at s p + 1 ≡ floor_at s p = omega arith in
      let c : held_at s p + 2 ≡ ceiling_at s p = omega arith in
      (λ i. room_by (e i) t w) ∙ (λ i. room_ok (word w (held_at s p)) (word w (f i)) (word w (c i)) (at-seat.claimed i) s.nodes)

-- ---- the nodes in use

module _ (s : Shape) (p : ℕ) (b w : List ℕ) (p< : p < s.ports) where
  pub used_le : used_in s w ≤ claimed_in s w
  used_le = to_le s.ports (λ q. word w (held_at s q)) (λ q. max (word w (held_at s q)) (word w (floor_at s q))) (λ q l. omega arith)

  pub mine-le : word w (held_at s p) ≤ used_in s w
  mine-le = to_part s.ports (λ q. word w (held_at s q)) p p<

  -- a port that may take one more in finds a node
  pub used-lt : is_whole s p b w ≡ true → has_room s p w ≡ true → used_in s w < s.nodes
  used-lt h r = room-used s p b w p< ((whole-means s p b w).says h) ((room-means s p w).says r)

-- ---- what a push asks for

module _ (s : Shape) (p : ℕ) (b w : List ℕ) (k : Lay) (e : k ≡ seat s p) (t : Totals) (z : Summed w k.free s.ports t) (h : Known s p b w) (r : (whole_by k t b w && room_by k t w) ≡ true) where
  pub push-whole : is_whole s p b w ≡ true
  push-whole = sym (whole_by_lem s p b w k e t z) ∙ and_left (whole_by k t b w) (room_by k t w) r

  pub push-room : has_room s p w ≡ true
  push-room = sym (room_by_lem s p b w k e t z) ∙ and_right (whole_by k t b w) (room_by k t w) r

  pub used-small : t.used < k.nodes
  used-small =
      let l = used-lt s p b w (port< s p b w h) push-whole push-room in
      rw e (omega (arith, used-is s p b w k e t z))

  pub used-fits : t.used ≤ 65536
  used-fits = let l = used-lt s p b w (port< s p b w h) push-whole push-room in omega (arith, used-is s p b w k e t z, (shaped s p b w h).high)

  pub roomy : Roomy k t.used w
  roomy = record { used< = used-small; free> = rw e (free-some s p b w (port< s p b w h) ((whole-means s p b w).says push-whole) ((room-means s p w).says push-room)) }

  pub joining : (rank : ℕ) (good? : Bool) (to : Room) → rank < k.ranks → FoundRoom good? to (room_with k t.used b w rank) → good? ≡ true → Joining k b w rank to.tail
  joining rank good? to l f g =
      steps.joining k b w (stands s p b w k e h) t.used rank good? to roomy.free> (rw e ((whole-means s p b w).says push-whole).free≤)
      (rw e (let l = used-lt s p b w (port< s p b w h) push-whole push-room in omega (arith, mine-le s p b w (port< s p b w h))))
      l f g

-- ---- the store as after a pop

module _ (s : Shape) (p : ℕ) (b w : List ℕ) (low : Lowest) (f : Freeing (seat s p) b w low) (deep : 1 ≤ s.storeys) (p< : p < s.ports) (h : is_whole s p b w ≡ true) where
  facts : Whole s p b w
  facts = (whole-means s p b w).says h

  held_then : word (taken_words (seat s p) w low) (held_at s p) ≡ word w (held_at s p) - 1
  held_then = held_after (seat s p) f.stands.laid w low f.stands.shaped.words

  held-else : (q : ℕ) → (q ≡ p → ⊥) → word (taken_words (seat s p) w low) (held_at s q) ≡ word w (held_at s q)
  held-else q n = taken-foreign (seat s p) f.stands.laid w low f.stands.shaped.words f.takable.rank< f.takable.node.some f.takable.node.high (held_at s q) (foreign-held s deep p p< q n)

  floor-then : (q : ℕ) → word (taken_words (seat s p) w low) (floor_at s q) ≡ word w (floor_at s q)
  floor-then q = taken-foreign (seat s p) f.stands.laid w low f.stands.shaped.words f.takable.rank< f.takable.node.some f.takable.node.high (floor_at s q) (foreign-floor s deep p p< q)

  ceiling-then : (q : ℕ) → word (taken_words (seat s p) w low) (ceiling_at s q) ≡ word w (ceiling_at s q)
  ceiling-then q = taken-foreign (seat s p) f.stands.laid w low f.stands.shaped.words f.takable.rank< f.takable.node.some f.takable.node.high (ceiling_at s q) (foreign-ceiling s deep p p< q)

  held-le : (q : ℕ) → word (taken_words (seat s p) w low) (held_at s q) ≤ word w (held_at s q)
  held-le q = elim (ℕ_discrete q p) [ yes e ↦ rw e (omega (arith, held_then)) | no e ↦ omega (arith, held-else q e) ]

  -- one node less is in use
  pub used-then : used_in s (taken_words (seat s p) w low) ≡ used_in s w - 1
  used-then =
      let u = to-upd s.ports (λ q. word w (held_at s q)) (λ q. word (taken_words (seat s p) w low) (held_at s q)) p (word w (held_at s p) - 1) (record { here = held_then; else = held-else }) p< in
      omega (arith, mine-le s p b w p<, f.takable.held>)

  claimed-then : claimed_in s (taken_words (seat s p) w low) ≤ claimed_in s w
  claimed-then =
      to_le s.ports (λ q. max (word (taken_words (seat s p) w low) (held_at s q)) (word (taken_words (seat s p) w low) (floor_at s q))) (λ q. max (word w (held_at s q)) (word w (floor_at s q)))
      (λ q l. omega (arith, held-le q, floor-then q))

  kept_then : limits_kept s (taken_words (seat s p) w low) ≡ true
  kept_then = (kept-means s (taken_words (seat s p) w low)).holds (λ q l. (omega (arith, facts.floors q l, floor-then q, ceiling-then q), omega (arith, facts.ceilings q l, held-le q, ceiling-then q)))

  free-then : word (taken_words (seat s p) w low) (free_at s) ≡ low.head
  free-then = free-after (seat s p) f.stands.laid w low f.stands.shaped.words

  -- of the tests of the whole pool only the top word's can fail
  whole-then : is_whole s p (taken_bits (seat s p) b low) (taken_words (seat s p) w low) ≡ Bool·beq (eqb (word (taken_bits (seat s p) b low) (seat s p).bits) 0) (eqb (word (taken_words (seat s p) w low) (held_at s p)) 0)
  unfolding whole_ok
  whole-then =
      let n = s.nodes in
      let t = f.takable.node in
      let used≥ : 1 ≤ used_in s w = omega (arith, mine-le s p b w p<, f.takable.held>) in
      let used≤ : used_in s w ≤ n = omega (arith, used_le s p b w p<, facts.claims) in
      rw (kept_then, le-leb (claimed_in s (taken_words (seat s p) w low)) n (omega (arith, claimed-then, facts.claims)), free-then, used-then, le-leb low.head n t.high, ne_eqb low.head 0 (λ x. omega (arith, t.some)), ne_eqb (used_in s w - 1) n (λ x. omega arith)) refl

  pub after_is : (r : ℕ) → room_freed (seat s p) (taken_bits (seat s p) b low) (taken_words (seat s p) w low) r ≡ room_after s p (taken_bits (seat s p) b low) (taken_words (seat s p) w low) r
  unfolding room_after
  after_is r =
      freed-is (seat s p) (used_in s (taken_words (seat s p) w low)) (taken_bits (seat s p) b low) (taken_words (seat s p) w low) r _ whole-then
      (rw used-then (node-after (seat s p) w low f.takable (used_in s w) (omega (arith, mine-le s p b w p<, f.takable.held>)) facts.free≤ facts.full))
