-- What the other ports can touch.
use Rattle.laws.specs.Prelude.{BadRank, Bool, Element, Idle, List, NoTag, Pop, Push, Replace, [], ◌&&◌, ◌++◌, ◌-◌, ◌<◌, ◌||◌, ◌∙◌, ◌∷◌, ◌≡◌, ap, arith, cond, dec_lt, eq-eqb, eqb, false, false≢true, is-upd, leb, leb-false, length, lt-ltb, ltb, ne_eqb, not, refl, subst, sym, true, true≢false, untagged, ℕ, ℕ_discrete, Ok, None, Err}
use Rattle.promise.specs.Prelude.{Step, leaves, step}
use Rattle.bucket_model.specs.Plain as plain
use Rattle.bucket_model.specs.Prelude.{Call, Said, answered, ask, held, insert, plain_with, roomy}
use Rattle.ports_model.specs.Prelude.{Ask, Heard, Lists, Shape, accepts, agreed_to, at, back, calls_at, calls_if, calls_of, ceiling_of, claimed, floor_of, heard_at, heard_if, only_if, open', ranks_of, room_ok, served, touched, touched_in, yes_of, yeses}
use Rattle.ports_model.proofs.Room.{served-in, served-out}

-- how many a port holds
abbrev pub long_at : ℕ → Lists → ℕ
long_at p st = length (st p)

module _ (s : Shape) (lim : List ℕ) where
  -- a port's step, where something outside says how much is claimed
  abbrev pub step_at : ℕ → ℕ → Call → List Element → plain.Step (List Element)
  step_at p c q l = plain_with (ranks_of s) (room_ok (length l) (floor_of lim p) (ceiling_of lim p) c s.nodes) q l

  -- ---- one port's history is one list's

  -- hs is what one list says that begins as l and ends as m, with a claim that comes from outside each time
  abbrev pub Own : ℕ → List Heard → List Element → List Element → Type 0
  Own p [] l m = l ≡ m
  Own p (h ∷ hs) l m =
      (c : ℕ) × (h.before ≡ length l) × (h.said ≡ (step_at p c h.call l).said) × Own p hs (step_at p c h.call l).next m

  abbrev pub heard : ℕ → List Ask → Lists → List Heard
  heard p as' st = heard_at (served s lim) long_at p as' st

  abbrev Told : ℕ → List Ask → Lists → Type 0
  Told p as' st = Own p (heard_at (served s lim) long_at p as' st) (st p) (leaves (served s lim) as' st p)

  -- a call of the port itself
  own-here : (p : ℕ) → p < s.ports → (c : Call) (as' : List Ask) (st : Lists) → ((st : Lists) → Told p as' st) → Told p (at p c ∷ as') st
  unfolding heard_at leaves
  own-here p p< c as' st ih =
      rw (eq-eqb p p refl)
      (claimed s lim st, refl, ap (λ (x : Step Said Lists). x.said) is, subst (λ (l : List Element). Own p (heard_at (served s lim) long_at p as' S) l (leaves (served s lim) as' S p)) own-next (ih S))
    where
      S : Lists
      S = (served s lim (at p c) st).next

      is : served s lim (at p c) st ≡ back st p (plain_with (ranks_of s) (accepts s lim st p) c (st p))
      is = served-in s lim (at p c) st p<

      own-next : (served s lim (at p c) st).next p ≡ (plain_with (ranks_of s) (accepts s lim st p) c (st p)).next
      own-next = ap (λ (x : Step Said Lists). x.next p) is ∙ (is-upd st p (plain_with (ranks_of s) (accepts s lim st p) c (st p)).next).here

  -- a call of another port, or of none
  pub others : (p : ℕ) (a : Ask) (st : Lists) → (a.port ≡ p → ⊥) → (served s lim a st).next p ≡ st p
  others p a st n = elim (dec_lt a.port s.ports) [
    | yes h ↦ ap (λ (x : Step Said Lists). x.next p) (served-in s lim a st h) ∙ (is-upd st a.port (plain_with (ranks_of s) (accepts s lim st a.port) a.call (st a.port)).next).else p (λ e. n (sym e))
    | no h ↦ ap (λ (x : Step Said Lists). x.next p) (served-out s lim a st (omega arith))
  ]

  own-there : (p : ℕ) (a : Ask) (as' : List Ask) (st : Lists) → (a.port ≡ p → ⊥) → ((st : Lists) → Told p as' st) → Told p (a ∷ as') st
  unfolding heard_at leaves
  own-there p a as' st n ih =
      rw (ne_eqb a.port p n)
      (subst (λ (l : List Element). Own p (heard_at (served s lim) long_at p as' (served s lim a st).next) l (leaves (served s lim) as' (served s lim a st).next p)) (others p a st n) (ih (served s lim a st).next))

  pub own : (p : ℕ) → p < s.ports → (as' : List Ask) (st : Lists) → Told p as' st
  unfolding heard_at leaves
  own p p< [] st = refl
  own p p< (a ∷ as') st = elim (ℕ_discrete a.port p) [
    | yes e ↦ subst (λ (a : Ask). Told p (a ∷ as') st) (sym (ap (λ (q : ℕ). at q a.call) e)) (own-here p p< a.call as' st (own p p< as'))
    | no e ↦ own-there p a as' st e (own p p< as')
  ]

  -- what p asks is what stands in the list at p
  pub heard-calls : (p : ℕ) (as' : List Ask) (st : Lists) → calls_of (heard_at (served s lim) long_at p as' st) ≡ calls_at p as'
  unfolding heard_at calls_at
  heard-calls p [] st = refl
  heard-calls p (a ∷ as') st = go (eqb a.port p) (heard-calls p as' (served s lim a st).next)
    where
      go : (t : Bool) → calls_of (heard_at (served s lim) long_at p as' (served s lim a st).next) ≡ calls_at p as'
          → calls_of (heard_if t (record { call = a.call; before = length (st p); said = (served s lim a st).said }) (heard_at (served s lim) long_at p as' (served s lim a st).next)) ≡ calls_if t a.call (calls_at p as')
      go true ih = ap (λ (cs : List Call). a.call ∷ cs) ih
      go false ih = ih

-- ---- one step

-- the same yes or no, the same step
push-same : (ranks : ℕ) (x y : Bool) (e : Element) (l : List Element)
    → agreed_to (plain_with ranks x (ask (Push e)) l).said ≡ agreed_to (plain_with ranks y (ask (Push e)) l).said → plain_with ranks x (ask (Push e)) l ≡ plain_with ranks y (ask (Push e)) l
unfolding plain_with
push-same ranks x y e l q = go (ltb e.rank.0 ranks) (not (untagged e)) x y q
  where
    T : Bool → Bool → Bool → plain.Step (List Element)
    T a b x = cond a (cond b (roomy x l (plain.step (answered (Ok None)) (insert e l))) (plain.step (answered (Err NoTag)) l)) (plain.step (answered (Err BadRank)) l)

    go : (a b x y : Bool) → agreed_to (T a b x).said ≡ agreed_to (T a b y).said → T a b x ≡ T a b y
    go true false x y q = refl
    go true true true true q = refl
    go true true true false q = absurd (true≢false q)
    go true true false true q = absurd (false≢true q)
    go true true false false q = refl
    go false b x y q = refl

-- only a push looks at its room
other-same : (ranks : ℕ) (x y : Bool) (c : Call) (l : List Element) → ((e : Element) → c ≡ ask (Push e) → ⊥) → plain_with ranks x c l ≡ plain_with ranks y c l
unfolding plain_with
other-same ranks x y (ask Idle) l n = refl
other-same ranks x y (ask (Push e)) l n = absurd (n e refl)
other-same ranks x y (ask Pop) l n = refl
other-same ranks x y (ask (Replace e)) l n = refl
other-same ranks x y held l n = refl

cons_head : (a b : Bool) (us vs : List Bool) → a ∷ us ≡ b ∷ vs → a ≡ b
cons_head a b us vs e = cc

cons_tail : (a b : Bool) (us vs : List Bool) → a ∷ us ≡ b ∷ vs → us ≡ vs
cons_tail a b us vs e = cc

-- the same step, and the rest of the signs
abbrev Same : ℕ → Bool → Bool → Call → List Element → List Bool → List Bool → Type 0
Same ranks x y c l us vs = (plain_with ranks x c l ≡ plain_with ranks y c l) × (us ≡ vs)

-- 02's letter
yes-same : (ranks : ℕ) (x y : Bool) (c : Call) (l : List Element) (us vs : List Bool)
    → yes_of c (plain_with ranks x c l).said ++ us ≡ yes_of c (plain_with ranks y c l).said ++ vs → Same ranks x y c l us vs
unfolding plain_with
yes-same ranks x y (ask Idle) l us vs q = (refl, q)
yes-same ranks x y (ask (Push e)) l us vs q = (push-same ranks x y e l (cons_head _ _ us vs q), cons_tail _ _ us vs q)
yes-same ranks x y (ask Pop) l us vs q = (refl, q)
yes-same ranks x y (ask (Replace e)) l us vs q = (refl, cons_tail _ _ us vs q)
yes-same ranks x y held l us vs q = (refl, q)

module _ (s : Shape) (lim : List ℕ) (p : ℕ) where
  abbrev room : ℕ → ℕ → Bool
  room n c = room_ok n (floor_of lim p) (ceiling_of lim p) c s.nodes

  -- below the floor, or at the ceiling, the room is no matter of what is claimed
  room_shut : (n c d : ℕ) → open' lim p n ≡ false → room_ok n (floor_of lim p) (ceiling_of lim p) c s.nodes ≡ room_ok n (floor_of lim p) (ceiling_of lim p) d s.nodes
  unfolding room_ok
  room_shut n c d q = go (leb (floor_of lim p) n) refl (ltb n (ceiling_of lim p)) q
    where
      go : (a : Bool) → leb (floor_of lim p) n ≡ a → (b : Bool) → (a && b) ≡ false → (ltb n (floor_of lim p) || (b && ltb 0 (s.nodes - c))) ≡ (ltb n (floor_of lim p) || (b && ltb 0 (s.nodes - d)))
      go true e true q = absurd (true≢false q)
      go true e false q = refl
      go false e b q = rw (lt-ltb n (floor_of lim p) (leb-false (floor_of lim p) n e))

  touched-push : (c d : ℕ) (e : Element) (l : List Element) (us vs : List Bool) (t : Bool) → open' lim p (length l) ≡ t
      → only_if t (agreed_to (plain_with (ranks_of s) (room (length l) c) (ask (Push e)) l).said) ++ us ≡ only_if t (agreed_to (plain_with (ranks_of s) (room (length l) d) (ask (Push e)) l).said) ++ vs
      → Same (ranks_of s) (room (length l) c) (room (length l) d) (ask (Push e)) l us vs
  touched-push c d e l us vs true o q = (push-same (ranks_of s) (room (length l) c) (room (length l) d) e l (cons_head _ _ us vs q), cons_tail _ _ us vs q)
  touched-push c d e l us vs false o q = (ap (λ (b : Bool). plain_with (ranks_of s) b (ask (Push e)) l) (room_shut (length l) c d o), q)

  touched-same : (c d : ℕ) (q : Call) (l : List Element) (us vs : List Bool)
      → touched_in (open' lim p (length l)) q (plain_with (ranks_of s) (room (length l) c) q l).said ++ us ≡ touched_in (open' lim p (length l)) q (plain_with (ranks_of s) (room (length l) d) q l).said ++ vs
      → Same (ranks_of s) (room (length l) c) (room (length l) d) q l us vs
  touched-same c d (ask Idle) l us vs e = (other-same (ranks_of s) (room (length l) c) (room (length l) d) (ask Idle) l (λ x i. absurd (idle-push x i)), e)
    where
      idle-push : (x : Element) → ask Idle ≡ ask (Push x) → ⊥
      idle-push x i = let z : ◌≡◌ {A = ℕ} 0 1 = cc in omega arith
  touched-same c d (ask (Push x)) l us vs e = touched-push c d x l us vs (open' lim p (length l)) refl e
  touched-same c d (ask Pop) l us vs e = (other-same (ranks_of s) (room (length l) c) (room (length l) d) (ask Pop) l (λ x i. absurd (pop-push x i)), e)
    where
      pop-push : (x : Element) → ask Pop ≡ ask (Push x) → ⊥
      pop-push x i = let z : ◌≡◌ {A = ℕ} 0 1 = cc in omega arith
  touched-same c d (ask (Replace y)) l us vs e = (other-same (ranks_of s) (room (length l) c) (room (length l) d) (ask (Replace y)) l (λ x i. absurd (replace-push x i)), e)
    where
      replace-push : (x : Element) → ask (Replace y) ≡ ask (Push x) → ⊥
      replace-push x i = let z : ◌≡◌ {A = ℕ} 0 1 = cc in omega arith
  touched-same c d held l us vs e = (other-same (ranks_of s) (room (length l) c) (room (length l) d) held l (λ x i. absurd (held-push x i)), e)
    where
      held-push : (x : Element) → held ≡ ask (Push x) → ⊥
      held-push x i = let z : ◌≡◌ {A = ℕ} 0 1 = cc in omega arith

-- ---- all steps, over any signs of what was agreed to

no_call : (c : Call) (cs : List Call) → [] ≡ c ∷ cs → ⊥
no_call c cs e = let z : ◌≡◌ {A = ℕ} 0 1 = cc in omega arith

call-head : (c d : Call) (cs ds : List Call) → c ∷ cs ≡ d ∷ ds → c ≡ d
call-head c d cs ds e = cc

call-tail : (c d : Call) (cs ds : List Call) → c ∷ cs ≡ d ∷ ds → cs ≡ ds
call-tail c d cs ds e = cc

module _ (s : Shape) (lim : List ℕ) (p : ℕ) (sign : ℕ → Call → Said → List Bool)
    (settles : (c d : ℕ) (q : Call) (l : List Element) (us vs : List Bool)
    → sign (length l) q (step_at s lim p c q l).said ++ us ≡ sign (length l) q (step_at s lim p d q l).said ++ vs
    → (step_at s lim p c q l ≡ step_at s lim p d q l) × (us ≡ vs)) where
  abbrev signs : List Heard → List Bool
  signs [] = []
  signs (h ∷ hs) = sign h.before h.call h.said ++ signs hs

  same : (hs gs : List Heard) (l m n : List Element) → Own s lim p hs l m → Own s lim p gs l n → calls_of hs ≡ calls_of gs → signs hs ≡ signs gs → (hs ≡ gs) × (m ≡ n)
  same [] [] l m n o u c e = (refl, sym o ∙ u)
  same [] (g ∷ gs) l m n o u c e = absurd (no_call g.call (calls_of gs) c)
  same (h ∷ hs) [] l m n o u c e = absurd (no_call h.call (calls_of hs) (sym c))
  same (h ∷ hs) (g ∷ gs) l m n o u c e =
      let r = same hs gs (step_at s lim p o.0 h.call l).next m n o.3 (subst (λ (x : List Element). Own s lim p gs x n) (sym nexts) u.3) (call-tail h.call g.call (calls_of hs) (calls_of gs) c) both.1 in
      ((λ i. heads i ∷ r.0 i), r.1)
    where
      cq : h.call ≡ g.call
      cq = call-head h.call g.call (calls_of hs) (calls_of gs) c

      left : sign h.before h.call h.said ++ signs hs ≡ sign (length l) h.call (step_at s lim p o.0 h.call l).said ++ signs hs
      left = ap (λ (a : ℕ). sign a h.call h.said ++ signs hs) o.1 ∙ ap (λ (x : Said). sign (length l) h.call x ++ signs hs) o.2

      right : sign g.before g.call g.said ++ signs gs ≡ sign (length l) h.call (step_at s lim p u.0 h.call l).said ++ signs gs
      right =
          ap (λ (a : ℕ). sign a g.call g.said ++ signs gs) u.1 ∙ ap (λ (x : Said). sign (length l) g.call x ++ signs gs) u.2
          ∙ ap (λ (d : Call). sign (length l) d (step_at s lim p u.0 d l).said ++ signs gs) (sym cq)

      both : (step_at s lim p o.0 h.call l ≡ step_at s lim p u.0 h.call l) × (signs hs ≡ signs gs)
      both = settles o.0 u.0 h.call l (signs hs) (signs gs) (sym left ∙ e ∙ right)

      steps : step_at s lim p o.0 h.call l ≡ step_at s lim p u.0 g.call l
      steps = both.0 ∙ ap (λ (d : Call). step_at s lim p u.0 d l) cq

      nexts : (step_at s lim p o.0 h.call l).next ≡ (step_at s lim p u.0 g.call l).next
      nexts = ap (λ (x : plain.Step (List Element)). x.next) steps

      saids : h.said ≡ g.said
      saids = o.2 ∙ ap (λ (x : plain.Step (List Element)). x.said) steps ∙ sym u.2

      befores : h.before ≡ g.before
      befores = o.1 ∙ sym u.1

      heads : h ≡ g
      heads = λ i. record { call = cq i; before = befores i; said = saids i }

-- ---- two histories

module _ (s : Shape) (lim : List ℕ) (p : ℕ) (p< : p < s.ports) (as' bs : List Ask) (st ts : Lists) (z : st p ≡ ts p) (c : calls_at p as' ≡ calls_at p bs) where
  abbrev H : List Heard
  H = heard_at (served s lim) long_at p as' st

  abbrev G : List Heard
  G = heard_at (served s lim) long_at p bs ts

  -- the same calls heard, with the same answers, and the same list held
  abbrev pub Isolated : Type 0
  Isolated = (heard_at (served s lim) long_at p as' st ≡ heard_at (served s lim) long_at p bs ts) × (leaves (served s lim) as' st p ≡ leaves (served s lim) bs ts p)

  by-signs : (sign : ℕ → Call → Said → List Bool)
      (settles : (c d : ℕ) (q : Call) (l : List Element) (us vs : List Bool)
      → sign (length l) q (step_at s lim p c q l).said ++ us ≡ sign (length l) q (step_at s lim p d q l).said ++ vs
      → (step_at s lim p c q l ≡ step_at s lim p d q l) × (us ≡ vs)) → signs s lim p sign settles H ≡ signs s lim p sign settles G → Isolated
  by-signs sign settles e =
      same s lim p sign settles H G (st p) (leaves (served s lim) as' st p) (leaves (served s lim) bs ts p)
      (own s lim p p< as' st) (subst (λ (l : List Element). Own s lim p G l (leaves (served s lim) bs ts p)) (sym z) (own s lim p p< bs ts))
      (heard-calls s lim p as' st ∙ c ∙ sym (heard-calls s lim p bs ts)) e

  yes-settles : (c d : ℕ) (q : Call) (l : List Element) (us vs : List Bool) → yes_of q (step_at s lim p c q l).said ++ us ≡ yes_of q (step_at s lim p d q l).said ++ vs → (step_at s lim p c q l ≡ step_at s lim p d q l) × (us ≡ vs)
  yes-settles c d q l us vs e = yes-same (ranks_of s) (room s lim p (length l) c) (room s lim p (length l) d) q l us vs e

  pub isolated : yeses (heard_at (served s lim) long_at p as' st) ≡ yeses (heard_at (served s lim) long_at p bs ts) → Isolated
  isolated e = by-signs (λ n. yes_of) yes-settles (sym (told H) ∙ e ∙ told G)
    where
      told : (hs : List Heard) → yeses hs ≡ signs s lim p (λ n. yes_of) yes-settles hs
      told [] = refl
      told (h ∷ hs) = ap (λ (l : List Bool). yes_of h.call h.said ++ l) (told hs)

  -- .. it is enough that those pushes are accepted at the same places that come at or above the floor and below the ceiling
  pub untouched : touched lim p (heard_at (served s lim) long_at p as' st) ≡ touched lim p (heard_at (served s lim) long_at p bs ts) → Isolated
  untouched e = by-signs (λ n. touched_in (open' lim p n)) (touched-same s lim p) (sym (told H) ∙ e ∙ told G)
    where
      told : (hs : List Heard) → touched lim p hs ≡ signs s lim p (λ n. touched_in (open' lim p n)) (touched-same s lim p) hs
      told [] = refl
      told (h ∷ hs) = ap (λ (l : List Bool). touched_in (open' lim p h.before) h.call h.said ++ l) (told hs)
