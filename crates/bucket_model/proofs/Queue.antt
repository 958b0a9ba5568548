-- A store that holds a list in leaving order, that it passes the tests of every call, and what it holds once one of its buckets has changed.
use Rattle.laws.specs.Prelude.{All, Element, Iff, List, [], ◌+◌, ◌<◌, ◌^◌, ◌∙◌, ◌∷◌, ◌≡◌, ◌≤◌, ap, arith, inl, inr, is-upd, length, pow-suc, refl, suc, sym, upd, zero, ℕ, ℕ_discrete}
use Rattle.bucket_model.specs.Prelude.{Laid, Load, Shaped, Whole, head_at, in_order, lowest_rank, no_load, node_words, queue, word}
use Rattle.bucket_model.specs.Layout.{Lay}
use Rattle.bucket_model.proofs.Chain.{Node, Mine, Seg, Chain}
use Rattle.bucket_model.proofs.Linked.{Area, Linked}
use Rattle.bucket_model.proofs.Order.{order-else, order-none, order-some}
use Rattle.bucket_model.proofs.Tower.{Ranks, Lowest, ranks-ext, ranks-none, ranks-first}

-- ---- chains

abbrev pub flag : List Node → ℕ
flag [] = 0
flag (x ∷ xs) = 1

-- nodes without a load
abbrev pub NoLoads : List Node → Type 0
NoLoads = All (λ (x : Node). x.load ≡ no_load)

abbrev pub loads : List Node → List Load
loads [] = []
loads (x ∷ xs) = x.load ∷ loads xs

pub loads-length : (xs : List Node) → length (loads xs) ≡ length xs
loads-length [] = refl
loads-length (x ∷ xs) = ap suc (loads-length xs)

pub flag-zero : (xs : List Node) → flag xs ≡ 0 → xs ≡ []
flag-zero [] e = refl
flag-zero (x ∷ xs) e = absurd (omega arith)

pub flag_one : (xs : List Node) → flag xs ≡ 1 → 1 ≤ length xs
flag_one [] e = absurd (omega arith)
flag_one (x ∷ xs) e = omega arith

module _ (stem : ℕ) (w : List ℕ) (n : ℕ) (own : ℕ → ℕ) (c p : ℕ) where
  pub seg-zero : (xs : List Node) → All (Mine own n c) xs → Seg stem w p xs → Iff (word w p ≡ 0) (length xs ≡ 0)
  seg-zero [] m z = record { to = λ e. refl; from = λ e. z }
  seg-zero (x ∷ xs) m z = record { to = λ e. absurd (omega (arith, z.0, m.0.low)); from = λ e. absurd (omega arith) }

  pub seg-le : (xs : List Node) → All (Mine own n c) xs → Seg stem w p xs → word w p ≤ n
  seg-le [] m z = omega arith
  seg-le (x ∷ xs) m z = omega (arith, z.0, m.0.high)

-- ---- a queue's lists

-- a queue among others over one pool: the heads of all their lists, its own among them
pub record Seat (k : Lay) : Type 1 where
  pub laid : Laid k
  pub Head : ℕ → Type 0
  pub head : (r : ℕ) → r < k.ranks → Head (head_at k r)
  pub low : (c : ℕ) → Head c → c + k.ranks < k.stem + node_words
  pub apart : (c d : ℕ) → Head c → Head d → c ≡ d + k.ranks → ⊥

-- .. and one that has the pool for itself
abbrev pub alone : (k : Lay) → Laid k → Seat k
alone k laid =
    record {
      laid = laid;
      Head = λ (c : ℕ). (k.heads ≤ c) × (c < k.heads + k.ranks);
      head = λ r h. (omega arith, omega arith);
      low = λ c h. omega (arith, h.1, laid.lists);
      apart = λ c d h g e. omega (arith, h.1, g.0);
    }

abbrev pub area : (k : Lay) → Seat k → Area
area k S =
    record {
      ranks = k.ranks;
      stem = k.stem;
      nodes = k.nodes;
      free = k.free;
      Head = S.Head;
      low = S.low;
      apart = S.apart;
      end = omega (arith, S.laid.pool);
    }

module _ (k : Lay) (S : Seat k) (others : ℕ) where
  abbrev laid : Laid k
  laid = S.laid

  -- the store holds the list l, and so many nodes are the others'
  pub record HoldsIn (b w : List ℕ) (l : List Element) : Type 0 where
    pub q : ℕ → List Node
    pub own : ℕ → ℕ
    pub shaped : Shaped k b w
    pub linked : Linked (area k S) w q own
    pub bits : Ranks k b (λ r. flag (q (head_at k r)))
    pub is : l ≡ in_order (λ r. loads (q (head_at k r))) 0 k.ranks
    pub held : word w k.held ≡ length l
    pub room : others + length l + length (q k.free) ≡ k.nodes
    pub blank : NoLoads (q k.free)

  module _ (b w : List ℕ) (l : List Element) (h : HoldsIn b w l) where
    pub free_chain : Chain k.stem w k.nodes h.own k.free (h.q k.free)
    free_chain = h.linked.chains k.free (inr refl)

    pub chain_of : (r : ℕ) → r < k.ranks → Chain k.stem w k.nodes h.own (head_at k r) (h.q (head_at k r))
    chain_of r r< = h.linked.chains (head_at k r) (inl (S.head r r<))

    -- no bucket is longer than the list
    pub lane-le : (r : ℕ) → r < k.ranks → length (h.q (head_at k r)) ≤ length l
    lane-le r r< =
        let m : ℕ → List Load = λ r. loads (h.q (head_at k r)) in
        let a = order-some m r 0 k.ranks (omega arith) (omega arith) in
        let c : length l ≡ length (in_order m 0 k.ranks) = ap length h.is in
        omega (arith, loads-length (h.q (head_at k r)))

    -- the lowest rank that holds something
    pub lowest : 0 < word b k.bits → Lowest k laid b (λ r. flag (h.q (head_at k r))) h.bits
    lowest top = ranks-first k laid b (λ r. flag (h.q (head_at k r))) h.bits top

    pub top-held : Iff (word b k.bits ≡ 0) (word w k.held ≡ 0)
    top-held = record { to = to; from = λ e. elim (ℕ_discrete (word b k.bits) 0) [ yes z ↦ z | no z ↦ absurd (from e z) ] }
      where
        to : word b k.bits ≡ 0 → word w k.held ≡ 0
        to e =
            h.held ∙ ap length h.is
            ∙ ap length (order-none (λ r. loads (h.q (head_at k r))) 0 k.ranks (λ j a c. ap loads (flag-zero (h.q (head_at k j)) (ranks-none k laid b (λ r. flag (h.q (head_at k r))) h.bits e j (omega arith)))))

        from : word w k.held ≡ 0 → (word b k.bits ≡ 0 → ⊥) → ⊥
        from e z =
            let a = lowest (omega arith) in
            omega (arith, flag_one (h.q (head_at k (lowest_rank k b))) a.here, lane-le (lowest_rank k b) a.within, h.held)

    pub free-le : word w k.free ≤ k.nodes
    free-le = seg-le k.stem w k.nodes h.own k.free k.free (h.q k.free) free_chain.mine free_chain.seg

    -- no node is free exactly if all are held
    pub free-none : Iff (word w k.free ≡ 0) (others + word w k.held ≡ k.nodes)
    free-none =
        let z = seg-zero k.stem w k.nodes h.own k.free k.free (h.q k.free) free_chain.mine free_chain.seg in
        record { to = λ e. omega (arith, z.to e, h.held, h.room); from = λ e. z.from (omega (arith, h.held, h.room)) }

    -- the bucket of rank r is now ys, the list l', and nothing else has changed
    pub record Change (r : ℕ) (b' w' : List ℕ) (l' : List Element) (ys : List Node) : Type 0 where
      pub q' : ℕ → List Node
      pub own' : ℕ → ℕ
      pub shaped : Shaped k b' w'
      pub linked : Linked (area k S) w' q' own'
      pub here : q' (head_at k r) ≡ ys
      pub else : (c : ℕ) → S.Head c → (c ≡ head_at k r → ⊥) → q' c ≡ h.q c
      pub bits : Ranks k b' (upd (λ j. flag (h.q (head_at k j))) r (flag ys))
      pub list : l' ≡ in_order (upd (λ j. loads (h.q (head_at k j))) r (loads ys)) 0 k.ranks
      pub count : word w' k.held ≡ length l'
      pub free : length (q' k.free) + length l' ≡ length (h.q k.free) + length l
      pub blank : NoLoads (q' k.free)

    pub changed : (r : ℕ) (b' w' : List ℕ) (l' : List Element) (ys : List Node) → Change r b' w' l' ys → HoldsIn b' w' l'
    changed r b' w' l' ys c =
        record {
          q = c.q';
          own = c.own';
          shaped = c.shaped;
          linked = c.linked;
          bits = ranks-ext k laid b' (upd (λ j. flag (h.q (head_at k j))) r (flag ys)) (λ j. flag (c.q' (head_at k j))) (owns flag) c.bits;
          is = c.list ∙ sym (order-else (upd (λ j. loads (h.q (head_at k j))) r (loads ys)) (λ j. loads (c.q' (head_at k j))) 0 k.ranks (λ j a d. owns loads j (omega arith)));
          held = c.count;
          room = omega (arith, c.free, h.room);
          blank = c.blank;
        }
      where
        owns : {A : Type 0} (f : List Node → A) (j : ℕ) → j < k.ranks → f (c.q' (head_at k j)) ≡ upd (λ j. f (h.q (head_at k j))) r (f ys) j
        owns {A} f j j< = elim (ℕ_discrete j r) [ yes e ↦ at e | no e ↦ ap f (c.else (head_at k j) (S.head j j<) (λ p. e (omega arith))) ∙ sym ((is-upd (λ j. f (h.q (head_at k j))) r (f ys)).else j e) ]
          where
            at : j ≡ r → f (c.q' (head_at k j)) ≡ upd (λ j. f (h.q (head_at k j))) r (f ys) j
            at e =
                ap (λ (i : ℕ). f (c.q' (head_at k i))) e ∙ ap f c.here ∙ sym (is-upd (λ j. f (h.q (head_at k j))) r (f ys)).here
                ∙ ap (upd (λ j. f (h.q (head_at k j))) r (f ys)) (sym e)

    pub changed-else : (r : ℕ) (b' w' : List ℕ) (l' : List Element) (ys : List Node) (x : Change r b' w' l' ys) (c : ℕ) → S.Head c → (c ≡ head_at k r → ⊥) → (changed r b' w' l' ys x).q c ≡ h.q c
    unfolding changed
    changed-else r b' w' l' ys x c i n = x.else c i n

-- ---- a queue that has the pool for itself

abbrev pub Holds : (k : Lay) → Laid k → List ℕ → List ℕ → List Element → Type 0
Holds k laid b w l = HoldsIn k (alone k laid) 0 b w l

-- the tests of every call
pub whole : (k : Lay) (laid : Laid k) (b w : List ℕ) (l : List Element) → Holds k laid b w l → Whole k b w
whole k laid b w l h =
    let f = free-none k (alone k laid) 0 b w l h in
    record {
      free≤ = free-le k (alone k laid) 0 b w l h;
      held≤ = omega (arith, h.held, h.room);
      full = record { to = λ e. omega (arith, f.to e); from = λ e. f.from (omega arith) };
      empty = top-held k (alone k laid) 0 b w l h;
    }

pub shaped-after : (k : Lay) (b w b' w' : List ℕ) → length b' ≡ length b → length w' ≡ length w → Shaped k b w → Shaped k b' w'
shaped-after k b w b' w' p q h = record { two = h.two; three = h.three; low = h.low; high = h.high; bits = omega (arith, h.bits); words = omega (arith, h.words) }

pub pow-pos64 : (d : ℕ) → 1 ≤ 64 ^ d
pow-pos64 zero = omega arith
pow-pos64 (suc d) = omega (arith, pow-pos64 d, pow-suc 64 d)

-- ---- a queue of its own store is laid so, whatever its storeys and nodes

pub laid_of : (d n : ℕ) → 1 ≤ d → Laid (queue d n)
laid_of zero n h = absurd (omega arith)
laid_of (suc d) n h =
    let p : 1 ≤ 64 ^ d = pow-pos64 d in
    record { deep = h; tower = refl; ranks = refl; lists = omega (arith, pow-suc 64 d); pool = omega (arith, pow-suc 64 d); held = omega arith }
