-- The lists and the free chain of a pool. What a pop's and a push's writes do to them, whichever list it is: no law here knows of ports.
use Rattle.laws.specs.Prelude.{All, List, [], ◌*◌, ◌++◌, ◌+◌, ◌<◌, ◌∙◌, ◌∷◌, ◌≡◌, ◌≤◌, ◌⊎◌, all_map, ap, arith, eq-eqb, inl, inr, is-upd, length, length-set, ne_eqb, refl, set, subst, sym, upd, ℕ, ℕ_discrete, ⊎_elim}
use Rattle.bucket_model.specs.Prelude.{Load, cell, head_at, link_at, load_in, load_words, load_writes, next_in, no_load, node_words, tail_left, word, write}
use Rattle.bucket_model.specs.Layout.{Lay}
use Rattle.bucket_model.proofs.Writes.{same, other, write-other, write-length, Misses}
use Rattle.bucket_model.proofs.Load.{load_same, load-misses, load-there}
use Rattle.bucket_model.proofs.Chain.{Node, node, Mine, Chain, Heads, Chains, Floats, floats, unhead, chains-off, float, float_load, attach-front, attach-back, end_slot, end-all}

-- the link of the last node, 0 where there is none
abbrev pub last_from : ℕ → List Node → ℕ
last_from l [] = l
last_from l (x ∷ xs) = last_from x.link xs

abbrev pub last_link : List Node → ℕ
last_link = last_from 0

-- lists over one pool of nodes: a list goes by the place of its head, its tail is as far behind as there are ranks; heads and tails stand before the nodes, apart from one another; the free link stands behind the nodes
pub record Area : Type 1 where
  pub ranks : ℕ
  pub stem : ℕ
  pub nodes : ℕ
  pub free : ℕ
  pub Head : ℕ → Type 0
  pub low : (c : ℕ) → Head c → c + ranks < stem + node_words
  pub apart : (c d : ℕ) → Head c → Head d → c ≡ d + ranks → ⊥
  pub end : stem + node_words * nodes + node_words ≤ free

module _ (A : Area) where
  abbrev R : ℕ
  R = A.ranks

  abbrev stem : ℕ
  stem = A.stem

  abbrev n : ℕ
  n = A.nodes

  abbrev free : ℕ
  free = A.free

  abbrev Head : ℕ → Type 0
  Head = A.Head

  -- the chains: one for each list, and the free one
  abbrev pub Id : ℕ → Type 0
  Id c = Head c ⊎ (c ≡ free)

  pub heads : Heads stem Id n
  heads c l i h h1 h2 i< e = ⊎_elim (λ a. omega (arith, A.low c a)) (λ (a : c ≡ free). omega (arith, A.end)) h

  pub record Linked (s : List ℕ) (q : ℕ → List Node) (own : ℕ → ℕ) : Type 0 where
    pub long : free < length s
    pub chains : Chains stem s Id n own q
    pub tails : (c : ℕ) → Head c → word s (c + R) ≡ last_link (q c)

  -- a word behind the free link is of no chain, and no tail
  pub linked-off : (s : List ℕ) (a v : ℕ) (q : ℕ → List Node) (own : ℕ → ℕ) → free < a → Linked s q own → Linked (set s a v) q own
  linked-off s a v q own f z =
      record {
        long = simp length-set z.long;
        chains = chains-off stem Id n heads s a v own q
            (λ c i e. ⊎_elim (λ h. omega (arith, A.low c h, A.end)) (λ (h : c ≡ free). omega arith) i) (λ l i h1 h2 i< e. omega (arith, A.end)) z.chains;
        tails = λ c h. other s a v (c + R) (λ e. omega (arith, A.low c h, A.end)) ∙ z.tails c h;
      }

  -- ---- a pop's writes

  -- the tail after the first node has gone
  last_rest : (s : List ℕ) (own : ℕ → ℕ) (c : ℕ) (x : Node) (xs : List Node) → Chain stem s n own c (x ∷ xs)
      → tail_left (word s (next_in stem x.link)) (last_link (x ∷ xs)) ≡ last_link xs
  unfolding tail_left
  last_rest s own c x [] z = simp (eq-eqb _ _ z.seg.2)
  last_rest s own c x (y ∷ ys) z = simp (ne_eqb (word s (next_in stem x.link)) 0 (λ e. omega (arith, z.seg.2.0, z.mine.1.0.low)))

  module _ (s : List ℕ) (q : ℕ → List Node) (own : ℕ → ℕ) (w : Linked s q own) (c : ℕ) (hc : Head c) (x : Node) (xs : List Node) (e : q c ≡ x ∷ xs) where
    abbrev l : ℕ
    l = x.link

    abbrev q1 : ℕ → List Node
    q1 = upd q c xs

    abbrev pub taken_q : ℕ → List Node
    taken_q = upd q1 free (node l no_load ∷ q1 free)

    abbrev pub taken_own : ℕ → ℕ
    taken_own = upd own l free

    abbrev s1 : List ℕ
    s1 = set s c (word s (next_in stem l))

    abbrev s2 : List ℕ
    s2 = set s1 (c + R) (tail_left (word s (next_in stem l)) (word s (c + R)))

    abbrev s3 : List ℕ
    s3 = write s2 (load_writes stem l no_load)

    abbrev s5 : List ℕ
    s5 = set s3 (next_in stem l) (word s free)

    abbrev pub taking : List ℕ
    taking = set s5 free l

    z : Chain stem s n own c (x ∷ xs)
    z = subst (Chain stem s n own c) e (w.chains c (inl hc))

    l> : 1 ≤ l
    l> = z.mine.0.low

    l≤ : l ≤ n
    l≤ = z.mine.0.high

    c< : c + R < stem + node_words
    c< = A.low c hc

    f1 : Floats stem Id n heads q1 l
    f1 = floats stem Id n heads s own q q1 c x xs (inl hc) e (is-upd q c xs) w.chains

    c1 : Chains stem s1 Id n own q1
    c1 = unhead stem Id n heads s own q q1 c x xs (inl hc) (omega (arith, w.long, c<, A.end)) e (is-upd q c xs) w.chains

    c2 : Chains stem s2 Id n own q1
    c2 =
        chains-off stem Id n heads s1 (c + R) _ own q1
        (λ d i a. ⊎_elim (λ h. A.apart d c h hc a) (λ (h : d ≡ free). omega (arith, c<, A.end)) i) (λ k i h1 h2 i< a. omega (arith, c<)) c1

    c5 : Chains stem s5 Id n own q1
    c5 = float stem Id n heads s3 l load_words (word s free) own q1 (omega arith) l> l≤ f1 (float_load stem Id n heads s2 l no_load own q1 l> l≤ f1 c2)

    -- a place that is none of the node's words
    miss : (a : ℕ) → ((i : ℕ) → i < node_words → a ≡ cell stem l i → ⊥) → Misses a (load_writes stem l no_load)
    miss a h = load-misses stem l no_load a (λ i k. h i (omega arith))

    -- .. is as it was before the node's words were written
    node-off : (a : ℕ) → ((i : ℕ) → i < node_words → a ≡ cell stem l i → ⊥) → word s5 a ≡ word s2 a
    node-off a h = other s3 _ _ a (h load_words (omega arith)) ∙ write-other s2 (load_writes stem l no_load) a (miss a h)

    free5 : word s5 free ≡ word s free
    free5 = node-off free (λ i i< p. omega (arith, l≤, A.end)) ∙ other s1 _ _ free (λ p. omega (arith, c<, A.end)) ∙ other s _ _ free (λ p. omega (arith, c<, A.end))

    long3 : length s3 ≡ length s
    long3 = write-length s2 (load_writes stem l no_load) ∙ simp length-set

    long5 : length s5 ≡ length s
    long5 = length-set s3 _ _ ∙ long3

    load5 : load_in stem s5 l ≡ no_load
    load5 =
        load_same stem s3 s5 l (λ i i<. other s3 _ _ (cell stem l i) (λ p. omega arith))
        ∙ load-there stem s2 l no_load (simp length-set (omega (arith, l≤, w.long, A.end)))

    c6 : Chains stem taking Id n taken_own taken_q
    c6 =
        attach-front stem Id n heads s5 own taken_own q1 taken_q free l no_load (inr refl) (omega (arith, long5, w.long)) l> l≤ f1 load5
        (same s3 (next_in stem l) _ (omega (arith, long3, l≤, w.long, A.end)) ∙ sym free5)
        (is-upd q1 free _) (is-upd own l free) c5

    -- a tail is no word that is written after s2
    tail6 : (d : ℕ) → Head d → word taking (d + R) ≡ word s2 (d + R)
    tail6 d h =
        let g = A.low d h in
        other s5 _ _ (d + R) (λ p. omega (arith, A.end)) ∙ node-off (d + R) (λ i i< p. omega (arith, l>))

    pub taken-else : (d : ℕ) → Head d → taken_q d ≡ q1 d
    taken-else d h = (is-upd q1 free _).else d (λ p. omega (arith, A.low d h, A.end))

    tails6 : (d : ℕ) → Head d → word taking (d + R) ≡ last_link (taken_q d)
    tails6 d h = tail6 d h ∙ elim (ℕ_discrete d c) [ yes a ↦ here a | no a ↦ there a ] ∙ ap last_link (sym (taken-else d h))
      where
        here : d ≡ c → word s2 (d + R) ≡ last_link (q1 d)
        here a =
            ap (λ (i : ℕ). word s2 (i + R)) a ∙ same s1 (c + R) _ (simp length-set (omega (arith, w.long, c<, A.end)))
            ∙ ap (tail_left (word s (next_in stem l))) (w.tails c hc ∙ ap last_link e) ∙ last_rest s own c x xs z
            ∙ ap last_link (sym (is-upd q c xs).here) ∙ ap (λ (i : ℕ). last_link (q1 i)) (sym a)

        there : (d ≡ c → ⊥) → word s2 (d + R) ≡ last_link (q1 d)
        there a =
            other s1 _ _ (d + R) (λ p. a (omega arith)) ∙ other s _ _ (d + R) (λ p. A.apart c d hc h (sym p)) ∙ w.tails d h
            ∙ ap last_link (sym ((is-upd q c xs).else d a))

    pub take-linked : Linked taking taken_q taken_own
    take-linked = record { long = omega (arith, length-set s5 free l, long5, w.long); chains = c6; tails = tails6 }

    -- one node more is free, without a load
    pub taken_free : taken_q free ≡ node l no_load ∷ q free
    taken_free =
        (is-upd q1 free (node l no_load ∷ q1 free)).here
        ∙ ap (λ (k : List Node). node l no_load ∷ k) ((is-upd q c xs).else free (λ p. omega (arith, c<, A.end)))

  -- ---- a push's writes

  end-last : (l : ℕ) (xs : List Node) → end_slot stem (next_in stem l) xs ≡ next_in stem (last_from l xs)
  end-last l [] = refl
  end-last l (x ∷ xs) = end-last x.link xs

  pub last≤ : (own : ℕ → ℕ) (c l : ℕ) (xs : List Node) → 1 ≤ l → l ≤ n → All (Mine own n c) xs → (1 ≤ last_from l xs) × (last_from l xs ≤ n)
  last≤ own c l [] h k m = (h, k)
  last≤ own c l (x ∷ xs) h k m = last≤ own c x.link xs m.0.low m.0.high m.1

  -- where a newcomer's link stands is the end of its chain
  module _ (k : Lay) (k-stem : k.stem ≡ stem) where
    pub slot-end : (own : ℕ → ℕ) (r : ℕ) (xs : List Node) (c : ℕ) → All (Mine own n c) xs → link_at k r (last_link xs) ≡ end_slot stem (head_at k r) xs
    unfolding link_at
    slot-end own r [] c m = refl
    slot-end own r (x ∷ xs) c m =
        let h = (last≤ own c x.link xs m.0.low m.0.high m.1).0 in
        simp (ne_eqb (last_from x.link xs) 0 (λ e. omega arith)) (ap (λ (a : ℕ). next_in a (last_from x.link xs)) k-stem ∙ sym (end-last x.link xs))

  last_snoc : (l : ℕ) (xs : List Node) (y : Node) → last_from l (xs ++ y ∷ []) ≡ y.link
  last_snoc l [] y = refl
  last_snoc l (x ∷ xs) y = last_snoc x.link xs y

  module _ (s : List ℕ) (q : ℕ → List Node) (own : ℕ → ℕ) (w : Linked s q own) (c : ℕ) (hc : Head c) (x : Node) (xs : List Node) (e : q free ≡ x ∷ xs) (t : Load) where
    abbrev f : ℕ
    f = x.link

    abbrev p1 : ℕ → List Node
    p1 = upd q free xs

    abbrev pub joined_q : ℕ → List Node
    joined_q = upd p1 c (p1 c ++ node f t ∷ [])

    abbrev pub joined_own : ℕ → ℕ
    joined_own = upd own f c

    abbrev t1 : List ℕ
    t1 = set s free (word s (next_in stem f))

    abbrev t3 : List ℕ
    t3 = write t1 (load_writes stem f t)

    abbrev t4 : List ℕ
    t4 = set t3 (next_in stem f) 0

    abbrev t5 : List ℕ
    t5 = set t4 (end_slot stem c (q c)) f

    abbrev pub joining : List ℕ
    joining = set t5 (c + R) f

    zf : Chain stem s n own free (x ∷ xs)
    zf = subst (Chain stem s n own free) e (w.chains free (inr refl))

    k> : 1 ≤ f
    k> = zf.mine.0.low

    k≤ : f ≤ n
    k≤ = zf.mine.0.high

    h< : c + R < stem + node_words
    h< = A.low c hc

    g1 : Floats stem Id n heads p1 f
    g1 = floats stem Id n heads s own q p1 free x xs (inr refl) e (is-upd q free xs) w.chains

    d1 : Chains stem t1 Id n own p1
    d1 = unhead stem Id n heads s own q p1 free x xs (inr refl) w.long e (is-upd q free xs) w.chains

    d4 : Chains stem t4 Id n own p1
    d4 =
        float stem Id n heads t3 f load_words 0 own p1 (omega arith) k> k≤ g1 (float_load stem Id n heads t1 f t own p1 k> k≤ g1 d1)

    -- a place that is none of the node's words
    node-off' : (a : ℕ) → ((i : ℕ) → i < node_words → a ≡ cell stem f i → ⊥) → word t4 a ≡ word t1 a
    node-off' a h = other t3 _ _ a (h load_words (omega arith)) ∙ write-other t1 (load_writes stem f t) a (load-misses stem f t a (λ i k. h i (omega arith)))

    long3' : length t3 ≡ length s
    long3' = write-length t1 (load_writes stem f t) ∙ length-set s _ _

    long4 : length t4 ≡ length s
    long4 = length-set t3 _ _ ∙ long3'

    p1-else : (d : ℕ) → Head d → p1 d ≡ q d
    p1-else d h = (is-upd q free xs).else d (λ p. omega (arith, A.low d h, A.end))

    load4 : load_in stem t4 f ≡ t
    load4 =
        load_same stem t3 t4 f (λ i i<. other t3 _ _ (cell stem f i) (λ p. omega arith))
        ∙ load-there stem t1 f t (simp length-set (omega (arith, k≤, w.long, A.end)))

    d5 : Chains stem t5 Id n joined_own joined_q
    d5 =
        subst (λ (ys : List Node). Chains stem (set t4 (end_slot stem c ys) f) Id n joined_own joined_q) (p1-else c hc)
        (attach-back stem Id n heads t4 own joined_own p1 joined_q c f t (inl hc) (omega (arith, long4, w.long, h<, A.end)) (omega (arith, long4, w.long, A.end)) k> k≤ g1
        load4 (same t3 (next_in stem f) 0 (omega (arith, long3', k≤, w.long, A.end))) (is-upd p1 c _) (is-upd own f c) d4)

    d6 : Chains stem joining Id n joined_own joined_q
    d6 =
        chains-off stem Id n heads t5 (c + R) _ joined_own joined_q
        (λ d i a. ⊎_elim (λ h. A.apart d c h hc a) (λ (h : d ≡ free). omega (arith, h<, A.end)) i) (λ k i h1 h2 i< a. omega (arith, h<)) d5

    -- where the link to the newcomer stands: no tail
    slot-off : (d : ℕ) → Head d → d + R ≡ end_slot stem c (q c) → ⊥
    slot-off d h =
        end-all stem (λ a. d + R ≡ a → ⊥) c (q c) (λ p. A.apart c d hc h (sym p))
        (all_map _ _ (λ y m p. omega (arith, m.low, A.low d h)) (q c) (w.chains c (inl hc)).mine)

    pub joined-other : (d : ℕ) → Head d → (d ≡ c → ⊥) → joined_q d ≡ q d
    joined-other d h a = (is-upd p1 c (p1 c ++ node f t ∷ [])).else d a ∙ p1-else d h

    pub joined-here : joined_q c ≡ q c ++ node f t ∷ []
    joined-here = (is-upd p1 c (p1 c ++ node f t ∷ [])).here ∙ ap (λ (y : List Node). y ++ node f t ∷ []) (p1-else c hc)

    tails7 : (d : ℕ) → Head d → word joining (d + R) ≡ last_link (joined_q d)
    tails7 d h = elim (ℕ_discrete d c) [ yes a ↦ here a | no a ↦ there a ]
      where
        here : d ≡ c → word joining (d + R) ≡ last_link (joined_q d)
        here a =
            ap (λ (i : ℕ). word joining (i + R)) a ∙ same t5 (c + R) _ (omega (arith, length-set t4 (end_slot stem c (q c)) f, long4, w.long, h<, A.end))
            ∙ sym (last_snoc 0 (q c) (node f t)) ∙ ap last_link (sym joined-here) ∙ ap (λ (i : ℕ). last_link (joined_q i)) (sym a)

        there : (d ≡ c → ⊥) → word joining (d + R) ≡ last_link (joined_q d)
        there a =
            let g = A.low d h in
            other t5 _ _ (d + R) (λ p. a (omega arith)) ∙ other t4 _ _ (d + R) (slot-off d h)
            ∙ node-off' (d + R) (λ i i< p. omega (arith, k>)) ∙ other s _ _ (d + R) (λ p. omega (arith, A.end))
            ∙ w.tails d h ∙ ap last_link (sym (joined-other d h a))

    pub join-linked : Linked joining joined_q joined_own
    join-linked = record { long = omega (arith, length-set t5 (c + R) f, length-set t4 (end_slot stem c (q c)) f, long4, w.long); chains = d6; tails = tails7 }

    -- one node fewer is free
    pub joined_free : joined_q free ≡ xs
    joined_free = (is-upd p1 c (p1 c ++ node f t ∷ [])).else free (λ p. omega (arith, h<, A.end)) ∙ (is-upd q free xs).here
