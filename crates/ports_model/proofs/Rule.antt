-- 02's rule of acceptance on the words, what a replace is, and what a pop gives: on every store that calls lead to.
use Rattle.laws.specs.Prelude.{Bool, Element, Iff, List, Means, Pop, Push, Replace, ◌<◌, ◌∙◌, ◌∷◌, ◌≡◌, ap, arith, cond, count_number, count_of, false, inl, is-upd, length, lt-ltb, means-no, means-off, number_of, refl, subst, sym, true, untagged, ℕ, Ok, None, Some}
use Rattle.promise.proofs.Tabled.{granted, passes}
use Rattle.promise.specs.Prelude.{Step, leaves, untagged-means}
use Rattle.std.specs.Prelude.{Ok}
use Rattle.bucket_model.specs.Prelude.{Outcome, Said, Sorted, Store, answered, ask, counted, held, plain_with, roomy, said_number, word}
use Rattle.bucket_model.specs.Plain as plain
use Rattle.ports_model.specs.Prelude.{Ask, Fair, FirstOut, Lists, Room, Shape, Shaped, Swaps, accepts, asked, at, called, ceiling_at, ceiling_of, floor_at, floor_of, has_room, held_count, many_at, none, ranks_of, served, start, stored_at, used_in}
use Rattle.ports_model.proofs.Clear.{deep}
use Rattle.ports_model.proofs.Exactly.{goes}
use Rattle.ports_model.proofs.Facts.{room-means}
use Rattle.ports_model.proofs.Promises.{now-holds, in_order, keeps}
use Rattle.ports_model.proofs.Room.{served-in, accepts-means, spare-node}
use Rattle.ports_model.proofs.Steps.{calls, swaps-held, pop-first}
use Rattle.ports_model.proofs.Store.{Holds, room-is, used-is, stored-at}

-- a number that a test decides
module _ (t : Bool) (P : Type 0) (m : Means t P) (n : ℕ) (e : n ≡ cond t 0 5) where
  by-test : (Iff (n ≡ 0) P) × (Iff (n ≡ 5) (P → ⊥))
  by-test = go t refl
    where
      go : (u : Bool) → t ≡ u → (Iff (n ≡ 0) P) × (Iff (n ≡ 5) (P → ⊥))
      go true i =
          let d : n ≡ 0 = e ∙ ap (λ (u : Bool). cond u 0 5) i in
          (record { to = λ x. m.says i; from = λ x. d }, record { to = λ f. absurd (omega arith); from = λ h. absurd (h (m.says i)) })
      go false i =
          let d : n ≡ 5 = e ∙ ap (λ (u : Bool). cond u 0 5) i in
          (record { to = λ x. absurd (omega arith); from = λ x. absurd (means-no m i x) }, record { to = λ f. means-no m i; from = λ h. d })

-- what a replace that is not refused answers is what a pop answers, on any words: it asks all that a pop asks
pub replace-gives : (s : Shape) (p : ℕ) (x : Store) (e : Element) → number_of (asked s p (Replace e) x).answer ≡ 0 → (asked s p (Replace e) x).answer ≡ (asked s p Pop x).answer
replace-gives s p x e n =
    let g = goes s p x.bits x.words (Replace e) in
    let t = granted g n in
    let u = t.1.1.1.1 in
    ap (λ (o : Outcome). o.answer) (passes g t) ∙ sym (ap (λ (o : Outcome). o.answer) (passes (goes s p x.bits x.words Pop) (t.0, (t.1.0, (u.0, (u.1.0, (u.1.1.0, tt)))))))

-- ---- from clear with fair limits on slices long enough, whatever was in them, for any list of calls at any ports

module _ (s : Shape) (lim b w : List ℕ) (shaped : Shaped s b w) (fair : Fair s lim) (as' : List Ask) (p : ℕ) (p< : p < s.ports) where
  abbrev now : Store
  now = leaves (called s) as' (start s lim b w)

  abbrev lists : Lists
  lists = leaves (served s lim) as' none

  H : Holds s (deep s lim b w shaped fair) shaped.some lim (leaves (called s) as' (start s lim b w)).bits (leaves (called s) as' (start s lim b w)).words (leaves (served s lim) as' none)
  H = now-holds s lim b w shaped fair as'

  module _ (e : Element) (r< : e.rank.0 < ranks_of s) (t : e.tag.0 ≡ 0 → ⊥) where
    tag : untagged e ≡ false
    tag = means-off (untagged-means e) t

    push-says : number_of (asked s p (Push e) (leaves (called s) as' (start s lim b w))).answer ≡ cond (has_room s p (leaves (called s) as' (start s lim b w)).words) 0 5
    unfolding called plain_with
    push-says =
        ap said_number ((calls s (deep s lim b w shaped fair) shaped.some lim now lists H (at p (ask (Push e)))).alike ∙ ap (λ (y : Step Said Lists). y.said) (served-in s lim (at p (ask (Push e))) lists p<))
        ∙ rw (lt-ltb e.rank.0 (ranks_of s) r<, tag) (roomy-said (accepts s lim lists p))
        ∙ ap (λ (t : Bool). cond t 0 5) (sym (room-is s (deep s lim b w shaped fair) shaped.some lim now.bits now.words lists H p p<))
      where
        roomy-said : (a : Bool) → said_number (roomy a (lists p) (plain.step (answered (Ok None)) (plain.insert e (lists p)))).said ≡ cond a 0 5
        roomy-said true = refl
        roomy-said false = refl

    -- ACCEPTED: "A push of port p that no earlier test refuses is accepted exactly if p holds less than its floor, or less than its ceiling while N minus the sum, over all ports, of the larger of held and floor is above zero. Otherwise it is "full"": 0, or 5
    pub accepted : (Iff (number_of (asked s p (Push e) (leaves (called s) as' (start s lim b w))).answer ≡ 0) (Room s p (leaves (called s) as' (start s lim b w)).words))
        × (Iff (number_of (asked s p (Push e) (leaves (called s) as' (start s lim b w))).answer ≡ 5) (Room s p (leaves (called s) as' (start s lim b w)).words → ⊥))
    accepted = by-test (has_room s p now.words) (Room s p now.words) (room-means s p now.words) (number_of (asked s p (Push e) now).answer) push-says

    -- FLOOR: "No port can keep another from its floor": below its floor a port's push is not refused, whatever calls came before
    pub floor : many_at s p (leaves (called s) as' (start s lim b w)) < floor_of lim p → number_of (asked s p (Push e) (leaves (called s) as' (start s lim b w))).answer ≡ 0
    floor l = accepted.0.from (inl (omega (arith, H.floor p p<)))

    -- REPLACES: with something held at the port a replace is a pop and then a push there, word for word, in a full pool and at the ceiling too
    pub replaces : (many_at s p (leaves (called s) as' (start s lim b w)) ≡ 0 → ⊥) → Swaps s p (leaves (called s) as' (start s lim b w)) e
    replaces z = swaps-held s (deep s lim b w shaped fair) shaped.some lim now lists H p p< e r< tag z

  -- a node is there for every push that is accepted
  pub node : Room s p (leaves (called s) as' (start s lim b w)).words → used_in s (leaves (called s) as' (start s lim b w)).words < s.nodes
  node a =
      let r = room-is s (deep s lim b w shaped fair) shaped.some lim now.bits now.words lists H p p< in
      omega (arith, spare-node s lim lists H.sound p p< ((accepts-means s lim lists p).says (sym r ∙ (room-means s p now.words).holds a)), used-is s (deep s lim b w shaped fair) shaped.some lim now.bits now.words lists H)

  -- LEAST: what a pop gives is the first of all that the port holds, and nothing held there has a lower rank
  pub least : (y : Element) → (asked s p Pop (leaves (called s) as' (start s lim b w))).answer ≡ Ok (Some y) → FirstOut s p (leaves (called s) as' (start s lim b w)) y
  unfolding asked
  least y a =
      let f = pop-first s (deep s lim b w shaped fair) shaped.some lim now lists H p p< y a in
      let q : stored_at s p now ≡ y ∷ f.0 = keeps s lim b w shaped fair as' p p< ∙ f.1 in
      record {
        first = q ∙ ap (λ (l : List Element). y ∷ l) (sym (stored-at s (deep s lim b w shaped fair) shaped.some lim _ _ _ f.2 p p< ∙ (is-upd lists p f.0).here));
        lowest = rw q (omega arith, (subst Sorted q (in_order s lim b w shaped fair as' p p<)).0);
      }

  -- "fixed when clearing"
  pub fixed : (word (leaves (called s) as' (start s lim b w)).words (floor_at s p) ≡ floor_of lim p) × (word (leaves (called s) as' (start s lim b w)).words (ceiling_at s p) ≡ ceiling_of lim p)
  fixed = (H.floor p p<, H.ceiling p p<)

  -- HELD: the call held answers number 0, and how many the port holds
  pub held-says : (count_number (held_count s p (leaves (called s) as' (start s lim b w)).bits (leaves (called s) as' (start s lim b w)).words) ≡ 0)
      × (count_of (held_count s p (leaves (called s) as' (start s lim b w)).bits (leaves (called s) as' (start s lim b w)).words) ≡ length (stored_at s p (leaves (called s) as' (start s lim b w))))
  unfolding called plain_with
  held-says =
      let e : counted (held_count s p now.bits now.words) ≡ counted (Ok (length (lists p))) = (calls s (deep s lim b w shaped fair) shaped.some lim now lists H (at p held)).alike ∙ ap (λ (y : Step Said Lists). y.said) (served-in s lim (at p held) lists p<) in
      let c : held_count s p now.bits now.words ≡ Ok (length (lists p)) = cc in
      (ap count_number c, ap count_of c ∙ ap length (sym (keeps s lim b w shaped fair as' p p<)))
