-- Chains of nodes in the words of a store, each by the place of its first link. No law knows how many lists there are, nor what a node's load is.
use Rattle.laws.specs.Prelude.{All, List, Upd, [], ◌++◌, ◌<◌, ◌∙◌, ◌∷◌, ◌≡◌, ◌≤◌, all_map, all-map-both, all_snoc, ap, arith, length, set, subst, sym, ℕ, ℕ_discrete}
use Rattle.bucket_model.specs.Prelude.{Load, cell, load_in, load_words, load_writes, next_in, node_words, word, write}
use Rattle.bucket_model.proofs.Writes.{same, other}
use Rattle.bucket_model.proofs.Load.{InLoad, load_same, load_cells}

-- a node by the link that names it, and its load
pub record Node : Type 0 where
  pub link : ℕ
  pub load : Load

abbrev pub node : ℕ → Load → Node
node l t = record { link = l; load = t }

-- l names none of the nodes
abbrev pub Apart : ℕ → List Node → Type 0
Apart l = All (λ x. x.link ≡ l → ⊥)

abbrev pub Distinct : List Node → Type 0
Distinct [] = Unit {0}
Distinct (x ∷ xs) = Apart x.link xs × Distinct xs

-- a node of chain c among n
pub record Mine (own : ℕ → ℕ) (n c : ℕ) (x : Node) : Type 0 where
  pub owner : own x.link ≡ c
  pub low : 1 ≤ x.link
  pub high : x.link ≤ n

pub distinct_snoc : (xs : List Node) (y : Node) → Distinct xs → Apart y.link xs → Distinct (xs ++ y ∷ [])
distinct_snoc [] y d o = (tt, tt)
distinct_snoc (x ∷ xs) y d o = (all_snoc _ xs y d.0 (λ e. o.0 (sym e)), distinct_snoc xs y d.1 o.1)

mine-else : (own own' : ℕ → ℕ) (n l d c : ℕ) (xs : List Node) → Upd own own' l d → Apart l xs → All (Mine own n c) xs → All (Mine own' n c) xs
mine-else own own' n l d c xs u o m =
    all-map-both _ _ _ (λ x f g. record { owner = u.else x.link f ∙ g.owner; low = g.low; high = g.high }) xs o m

-- the nodes begin behind stem
module _ (stem : ℕ) where
  -- the chain whose first link stands at address p
  abbrev pub Seg : List ℕ → ℕ → List Node → Type 0
  Seg s p [] = word s p ≡ 0
  Seg s p (x ∷ xs) = (word s p ≡ x.link) × (load_in stem s x.link ≡ x.load) × Seg s (next_in stem x.link) xs

  pub record Chain (s : List ℕ) (n : ℕ) (own : ℕ → ℕ) (c : ℕ) (xs : List Node) : Type 0 where
    pub seg : Seg s c xs
    pub mine : All (Mine own n c) xs
    pub once : Distinct xs

  -- a chain goes by the address of its first link. Where these stand: at no node's words
  abbrev pub Heads : (ℕ → Type 0) → ℕ → Type 0
  Heads Id n = (c l i : ℕ) → Id c → 1 ≤ l → l ≤ n → i < node_words → cell stem l i ≡ c → ⊥

  abbrev pub Chains : List ℕ → (ℕ → Type 0) → ℕ → (ℕ → ℕ) → (ℕ → List Node) → Type 0
  Chains s Id n own q = (c : ℕ) → Id c → Chain s n own c (q c)

  -- ---- a chain in another store

  -- the words of a node are as they were
  pub record Kept (s s' : List ℕ) (x : Node) : Type 0 where
    pub loads : load_in stem s' x.link ≡ load_in stem s x.link
    pub nexts : word s' (next_in stem x.link) ≡ word s (next_in stem x.link)

  pub seg-move : (s s' : List ℕ) (p p' : ℕ) (xs : List Node) → word s' p' ≡ word s p → All (Kept s s') xs → Seg s p xs → Seg s' p' xs
  seg-move s s' p p' [] e k h = e ∙ h
  seg-move s s' p p' (x ∷ xs) e k h =
      (e ∙ h.0, k.0.loads ∙ h.1, seg-move s s' (next_in stem x.link) (next_in stem x.link) xs k.0.nexts k.1 h.2)

  -- one word written, which is none of the node's
  pub kept_off : (s : List ℕ) (a v : ℕ) (x : Node) → ((i : ℕ) → i < node_words → cell stem x.link i ≡ a → ⊥) → Kept s (set s a v) x
  kept_off s a v x h =
      record {
        loads = load_same stem s (set s a v) x.link (λ i k. other s a v (cell stem x.link i) (h i (omega arith)));
        nexts = other s a v (next_in stem x.link) (h load_words (omega arith));
      }

  -- a word of another node written
  pub kept-cell : (s : List ℕ) (l i v : ℕ) (x : Node) → i < node_words → (x.link ≡ l → ⊥) → Kept s (set s (cell stem l i) v) x
  kept-cell s l i v x h n = kept_off s (cell stem l i) v x (λ j k e. n (omega arith))

  module _ (Id : ℕ → Type 0) (n : ℕ) (heads : Heads Id n) where
    -- a first link written
    kept-head : (s : List ℕ) (d v : ℕ) (own : ℕ → ℕ) (c : ℕ) (x : Node) → Id d → Mine own n c x → Kept s (set s d v) x
    kept-head s d v own c x h m = kept_off s d v x (λ i k. heads d x.link i h m.low m.high k)

    -- a word written that is of no chain
    pub chains-off : (s : List ℕ) (a v : ℕ) (own : ℕ → ℕ) (q : ℕ → List Node)
        → ((c : ℕ) → Id c → c ≡ a → ⊥) → ((l i : ℕ) → 1 ≤ l → l ≤ n → i < node_words → cell stem l i ≡ a → ⊥)
        → Chains s Id n own q → Chains (set s a v) Id n own q
    chains-off s a v own q h1 h2 z c l =
        let y = z c l in
        record {
          seg = seg-move s (set s a v) c c (q c) (other s a v c (h1 c l))
              (all_map _ _ (λ x m. kept_off s a v x (λ i k. h2 x.link i m.low m.high k)) (q c) y.mine) y.seg;
          mine = y.mine;
          once = y.once;
        }

    -- a chain loses its first node
    pub unhead : (s : List ℕ) (own : ℕ → ℕ) (q q' : ℕ → List Node) (c : ℕ) (x : Node) (xs : List Node)
        → Id c → c < length s → q c ≡ x ∷ xs → Upd q q' c xs
        → Chains s Id n own q → Chains (set s c (word s (next_in stem x.link))) Id n own q'
    unhead s own q q' c x xs h b e u z j l = elim (ℕ_discrete j c) [ yes i ↦ here i | no i ↦ there i ]
      where
        v : ℕ
        v = word s (next_in stem x.link)

        y : Chain s n own c (x ∷ xs)
        y = subst (Chain s n own c) e (z c h)

        mid : Chain (set s c v) n own c xs
        mid =
            record {
              seg = seg-move s (set s c v) (next_in stem x.link) c xs (same s c v b)
                  (all_map _ _ (λ w m. kept-head s c v own c w h m) xs y.mine.1) y.seg.2;
              mine = y.mine.1;
              once = y.once.1;
            }

        here : j ≡ c → Chain (set s c v) n own j (q' j)
        here i = subst (λ (i : ℕ). Chain (set s c v) n own i (q' i)) (sym i) (subst (Chain (set s c v) n own c) (sym u.here) mid)

        there : (j ≡ c → ⊥) → Chain (set s c v) n own j (q' j)
        there i =
            let o = z j l in
            subst (Chain (set s c v) n own j) (sym (u.else j i))
            (record {
              seg = seg-move s (set s c v) j j (q j) (other s c v j i)
                  (all_map _ _ (λ w m. kept-head s c v own j w h m) (q j) o.mine) o.seg;
              mine = o.mine;
              once = o.once;
            })

    -- l names a node of no chain
    abbrev pub Floats : (ℕ → List Node) → ℕ → Type 0
    Floats q l = (c : ℕ) → Id c → Apart l (q c)

    -- the node that a chain lost
    pub floats : (s : List ℕ) (own : ℕ → ℕ) (q q' : ℕ → List Node) (c : ℕ) (x : Node) (xs : List Node)
        → Id c → q c ≡ x ∷ xs → Upd q q' c xs → Chains s Id n own q → Floats q' x.link
    floats s own q q' c x xs h e u z j l = elim (ℕ_discrete j c) [ yes i ↦ here i | no i ↦ there i ]
      where
        y : Chain s n own c (x ∷ xs)
        y = subst (Chain s n own c) e (z c h)

        here : j ≡ c → Apart x.link (q' j)
        here i = subst (λ (i : ℕ). Apart x.link (q' i)) (sym i) (subst (Apart x.link) (sym u.here) y.once.0)

        there : (j ≡ c → ⊥) → Apart x.link (q' j)
        there i =
            subst (Apart x.link) (sym (u.else j i))
            (all_map _ _ (λ w m a. i (sym m.owner ∙ ap own a ∙ y.mine.0.owner)) (q j) (z j l).mine)

    -- a word of a floating node written
    pub float : (s : List ℕ) (l i v : ℕ) (own : ℕ → ℕ) (q : ℕ → List Node) → i < node_words → 1 ≤ l → l ≤ n → Floats q l
        → Chains s Id n own q → Chains (set s (cell stem l i) v) Id n own q
    float s l i v own q i< h1 h2 f z c k =
        let y = z c k in
        record {
          seg = seg-move s (set s (cell stem l i) v) c c (q c)
              (other s (cell stem l i) v c (λ a. heads c l i k h1 h2 i< (sym a)))
              (all_map _ _ (λ x o. kept-cell s l i v x i< o) (q c) (f c k)) y.seg;
          mine = y.mine;
          once = y.once;
        }

    -- .. and its load
    float-writes : (s : List ℕ) (l : ℕ) (ps : List (ℕ × ℕ)) (own : ℕ → ℕ) (q : ℕ → List Node) → All (λ p. InLoad stem l p.0) ps → 1 ≤ l → l ≤ n → Floats q l
        → Chains s Id n own q → Chains (write s ps) Id n own q
    float-writes s l [] own q a h1 h2 f z = z
    float-writes s l (p ∷ ps) own q a h1 h2 f z =
        float-writes (set s p.0 p.1) l ps own q a.1 h1 h2 f
        (subst (λ (i : ℕ). Chains (set s i p.1) Id n own q) (sym a.0.2) (float s l a.0.0 p.1 own q (omega (arith, a.0.1)) h1 h2 f z))

    pub float_load : (s : List ℕ) (l : ℕ) (t : Load) (own : ℕ → ℕ) (q : ℕ → List Node) → 1 ≤ l → l ≤ n → Floats q l
        → Chains s Id n own q → Chains (write s (load_writes stem l t)) Id n own q
    float_load s l t own q = float-writes s l (load_writes stem l t) own q (load_cells stem l t)

    -- a floating node put before a chain
    pub attach-front : (s : List ℕ) (own own' : ℕ → ℕ) (q q' : ℕ → List Node) (d l : ℕ) (t : Load)
        → Id d → d < length s → 1 ≤ l → l ≤ n → Floats q l → load_in stem s l ≡ t → word s (next_in stem l) ≡ word s d
        → Upd q q' d (node l t ∷ q d) → Upd own own' l d
        → Chains s Id n own q → Chains (set s d l) Id n own' q'
    attach-front s own own' q q' d l t h b h1 h2 f et en u o z j i = elim (ℕ_discrete j d) [ yes e ↦ here e | no e ↦ there e ]
      where
        S : List ℕ
        S = set s d l

        off : Kept s (set s d l) (node l t)
        off = kept_off s d l (node l t) (λ i k. heads d l i h h1 h2 k)

        mid : Chain S n own' d (node l t ∷ q d)
        mid =
            record {
              seg = (
                same s d l b,
                off.loads ∙ et,
                seg-move s S d (next_in stem l) (q d) (off.nexts ∙ en)
                    (all_map _ _ (λ w m. kept-head s d l own d w h m) (q d) (z d h).mine) (z d h).seg,
              );
              mine = (record { owner = o.here; low = h1; high = h2 }, mine-else own own' n l d d (q d) o (f d h) (z d h).mine);
              once = (f d h, (z d h).once);
            }

        here : j ≡ d → Chain S n own' j (q' j)
        here e = subst (λ (e : ℕ). Chain S n own' e (q' e)) (sym e) (subst (Chain S n own' d) (sym u.here) mid)

        there : (j ≡ d → ⊥) → Chain S n own' j (q' j)
        there e =
            let y = z j i in
            subst (Chain S n own' j) (sym (u.else j e))
            (record {
              seg = seg-move s S j j (q j) (other s d l j e)
                  (all_map _ _ (λ w m. kept-head s d l own j w h m) (q j) y.mine) y.seg;
              mine = mine-else own own' n l d j (q j) o (f j i) y.mine;
              once = y.once;
            })

  -- ---- the end of a chain

  -- the address of the link that ends the chain from p
  abbrev pub end_slot : ℕ → List Node → ℕ
  end_slot p [] = p
  end_slot p (x ∷ xs) = end_slot (next_in stem x.link) xs

  pub end-all : (P : ℕ → Type 0) (p : ℕ) (xs : List Node) → P p → All (λ y. P (next_in stem y.link)) xs → P (end_slot p xs)
  end-all P p [] h a = h
  end-all P p (x ∷ xs) h a = end-all P (next_in stem x.link) xs a.0 a.1

  seg-snoc : (s : List ℕ) (l : ℕ) (t : Load) (p : ℕ) (xs : List Node) → p < length s → All (λ y. next_in stem y.link < length s) xs
      → load_in stem s l ≡ t → word s (next_in stem l) ≡ 0 → ((i : ℕ) → i < node_words → cell stem l i ≡ p → ⊥) → Apart l xs → Distinct xs
      → All (λ y. p ≡ next_in stem y.link → ⊥) xs → Seg s p xs → Seg (set s (end_slot p xs) l) p (xs ++ node l t ∷ [])
  seg-snoc s l t p [] b bs et en h o d a z =
      let k = kept_off s p l (node l t) h in
      (same s p l b, k.loads ∙ et, k.nexts ∙ en)
  seg-snoc s l t p (x ∷ xs) b bs et en h o d a z =
      let e = end_slot (next_in stem x.link) xs in (
        other s e l p (end-all (λ i. p ≡ i → ⊥) (next_in stem x.link) xs a.0 a.1) ∙ z.0,
        load_same stem s (set s e l) x.link (λ j j<. other s e l (cell stem x.link j)
            (end-all (λ i. cell stem x.link j ≡ i → ⊥) (next_in stem x.link) xs (λ i. omega arith) (all_map _ _ (λ y _ i. omega arith) xs o.1))) ∙ z.1,
        seg-snoc s l t (next_in stem x.link) xs bs.0 bs.1 et en (λ i k e. o.0 (omega arith)) o.1 d.1
            (all_map _ _ (λ y f i. f (omega arith)) xs d.0) z.2,
      )

  module _ (Id : ℕ → Type 0) (n : ℕ) (heads : Heads Id n) where
    -- a floating node put behind a chain
    pub attach-back : (s : List ℕ) (own own' : ℕ → ℕ) (q q' : ℕ → List Node) (d l : ℕ) (t : Load)
        → Id d → d < length s → next_in stem n < length s → 1 ≤ l → l ≤ n → Floats Id n heads q l → load_in stem s l ≡ t → word s (next_in stem l) ≡ 0
        → Upd q q' d (q d ++ node l t ∷ []) → Upd own own' l d
        → Chains s Id n own q → Chains (set s (end_slot d (q d)) l) Id n own' q'
    attach-back s own own' q q' d l t h b bn h1 h2 f et en u o z j i = elim (ℕ_discrete j d) [ yes e ↦ here e | no e ↦ there e ]
      where
        S : List ℕ
        S = set s (end_slot d (q d)) l

        mid : Chain S n own' d (q d ++ node l t ∷ [])
        mid =
            record {
              seg = seg-snoc s l t d (q d) b (all_map _ _ (λ y m. omega (arith, m.high)) (q d) (z d h).mine) et en
                  (λ i k. heads d l i h h1 h2 k) (f d h) (z d h).once
                  (all_map _ _ (λ y m a. heads d y.link load_words h m.low m.high (omega arith) (sym a)) (q d) (z d h).mine) (z d h).seg;
              mine = all_snoc (Mine own' n d) (q d) (node l t) (mine-else own own' n l d d (q d) o (f d h) (z d h).mine) (record { owner = o.here; low = h1; high = h2 });
              once = distinct_snoc (q d) (node l t) (z d h).once (f d h);
            }

        here : j ≡ d → Chain S n own' j (q' j)
        here e = subst (λ (e : ℕ). Chain S n own' e (q' e)) (sym e) (subst (Chain S n own' d) (sym u.here) mid)

        there : (j ≡ d → ⊥) → Chain S n own' j (q' j)
        there e =
            let y = z j i in
            subst (Chain S n own' j) (sym (u.else j e))
            (record {
              seg = seg-move s S j j (q j)
                  (other s (end_slot d (q d)) l j
                  (end-all (λ a. j ≡ a → ⊥) d (q d) e (all_map _ _ (λ w m a. heads j w.link load_words i m.low m.high (omega arith) (sym a)) (q d) (z d h).mine)))
                  (all_map _ _ (λ w m. end-all (λ a. Kept s (set s a l) w) d (q d) (kept-head Id n heads s d l own j w h m)
                  (all_map _ _ (λ v g. kept-cell s v.link load_words l w (omega arith) (λ a. e (sym m.owner ∙ ap own a ∙ g.owner))) (q d) (z d h).mine)) (q j) y.mine) y.seg;
              mine = mine-else own own' n l d j (q j) o (f j i) y.mine;
              once = y.once;
            })
