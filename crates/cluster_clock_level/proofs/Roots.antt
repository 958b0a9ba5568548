-- The root as it is read, and the ruling on a request, are the definitions'.
use Rattle.std.proofs.Common.{None, Option, Some}
use Rattle.laws.specs.Prelude.{Answer, Bool, Element, Empty, Full, Idle, List, NoTag, Pop, Push, Replace, Request, ◌&&◌, ◌*◌, ◌+◌, ◌-◌, ◌<◌, ◌||◌, ◌∙◌, ◌≡◌, ◌≤◌, ap, ap₂, arith, asks, cond, eq-eqb, eqb, eqb-false, eqb-true, false, false≢true, le-ltb, leb, leb-true, length, lt-ltb, ne_eqb, not, not-false, not-true, refl, subst, suc, sym, true, true≢false, untagged, ℕ, Ok, None, Some, Err}
use Rattle.promise.specs.Prelude.{always}
use Rattle.cluster.proofs.Commute.{low-elem, low-place}
use Rattle.cluster_node.proofs.Fulls.{and_r}
use Rattle.cluster_clock_model.specs.Prelude.{Work, asked_ok, sane, sane_at, work}
use Rattle.cluster_model.proofs.Laws.{node-count}
use Rattle.cluster_model.specs.Prelude.{Node, Ruling, held_in, inside, low, low_elem, neat_to, node_in, node_of, none, nothing_below, place_words, room, root_held, rule, rule_at, ruling, swap, take, width, word, works}
use Rattle.cluster_node.proofs.Looks.{low-lt, within}
use Rattle.cluster_node.specs.Leaf.{elem_at, look_node, ok_by, place_in}
use Rattle.cluster_node.specs.Seeing.{look_to, low_only}
use Rattle.cluster_node.specs.declared.Seen.{Seen}
use Rattle.cluster_clock_level.proofs.Tested.{sane-counts}
use Rattle.cluster_clock_level.specs.Round.{TaskIn}
use Rattle.cluster_clock_level.proofs.Testing.{count-here, sane-here}
use Rattle.cluster_clock_level.specs.Stage.{GivesBy, Lowest, op_of, work_of}
use Rattle.cluster_clock_level.specs.declared.Job.{Job}
use Rattle.cluster_clock_level.specs.declared.Job.TheVariants as job
use Rattle.cluster_clock_level.specs.declared.Task.{Task}
use Rattle.cluster_clock_level.specs.Turn.{GivesAt, Opened, Read, RootIn, Rules, RulesFor}
use Rattle.cluster_clock_level.specs.declared.shaped.Root.{Root}
use Rattle.cluster_clock_level.specs.declared.shaped.Ruled.{Ruled}

-- ---- the root
-- a node in order that holds something, with all below it, has an element itself
sane-some : (K limit : ℕ) (ws : List ℕ) (m : ℕ) → 1 < K → sane_at K limit ws m ≡ true → 0 < root_held (node_in K ws m) → 0 < inside always (node_in K ws m).places
unfolding sane_at sane root_held nothing_below
sane-some K limit ws m two ok h =
    let n : Node = node_in K ws m in
    let x : Bool = leb n.left limit in
    let y : Bool = leb n.right limit in
    let z : Bool = eqb (n.left + n.right) 0 || leb (length n.places) (suc (inside always n.places)) in
    go (eqb (n.left + n.right) 0) refl (and_r y z (and_r x (y && z) (and_r (neat_to K ws (m * width K + 2) K) (x && (y && z)) ok)))
  where
    go : (b : Bool) → eqb ((node_in K ws m).left + (node_in K ws m).right) 0 ≡ b
        → (b || leb (length (node_in K ws m).places) (suc (inside always (node_in K ws m).places))) ≡ true → 0 < inside always (node_in K ws m).places
    go true e t = omega (arith, eqb-true ((node_in K ws m).left + (node_in K ws m).right) 0 e)
    go false e t = omega (arith, leb-true (length (node_in K ws m).places) (suc (inside always (node_in K ws m).places)) t, node-count K ws (m * width K))

module _ (K top : ℕ) (ws : List ℕ) (root : RootIn K top ws) (v : Seen) (seen : v ≡ low_only (look_to ws 2 K)) where
  at_zero : 0 ≡ 0 * width K
  at_zero = omega arith

  at-two : 2 ≡ 0 * width K + 2
  at-two = omega arith

  seen-root : v ≡ low_only (look_to ws (0 * width K + 2) K)
  seen-root = seen ∙ ap (λ (i : ℕ). low_only (look_to ws i K)) at-two

  pub low-few : v.low < K
  low-few = subst (λ (u : Seen). u.low < K) (sym seen) (low-lt ws 2 K (omega (arith, root.lies.some)))

  pub count-few : v.count ≤ K
  count-few = subst (λ (u : Seen). u.count ≤ K) (sym seen) (within ws 2 K).count

  module _ (t : Bool) (tested : t ≡ ok_by (K - 1) top ws 0 v) where
    test : t ≡ sane_at K top ws 0
    test = sane-here K top ws 0 (omega (arith, root.lies.some)) v seen-root t (tested ∙ ap (λ (i : ℕ). ok_by (K - 1) top ws i v) at_zero)

    pub opened-not : not t ≡ true → Opened K top ws None
    opened-not e = sym test ∙ not-true t e

    module _ (e : not t ≡ false) where
      fine : sane_at K top ws 0 ≡ true
      fine = sym test ∙ not-false t e

      -- the two counts
      pub left-few : word ws 0 ≤ 5460
      left-few = let c = (sane-counts K top ws 0 fine).0 in let z : word ws 0 ≡ word ws (0 * width K) = ap (word ws) at_zero in omega (arith, c, z, root.small)

      pub right-few : word ws 1 ≤ 5460
      right-few = let c = (sane-counts K top ws 0 fine).1 in let z : word ws 1 ≡ word ws (0 * width K + 1) = ap (λ (i : ℕ). word ws (i + 1)) at_zero in omega (arith, c, z, root.small)

      module _ (e₀ : Element) (read : e₀ ≡ elem_at ws (2 + v.low * place_words)) (l r : ℕ) (left : l ≡ word ws 0) (right : r ≡ word ws 1) where
        held-is : v.count + (l + r) ≡ root_held (node_in K ws 0)
        unfolding root_held node_of
        held-is =
            let c : v.count ≡ inside always (node_in K ws 0).places = count-here K top ws 0 (omega (arith, root.lies.some)) v seen-root t (tested ∙ ap (λ (i : ℕ). ok_by (K - 1) top ws i v) at_zero) in
            let a : l ≡ word ws (0 * width K) = left ∙ ap (word ws) at_zero in
            let b : r ≡ word ws (0 * width K + 1) = right ∙ ap (λ (i : ℕ). word ws (i + 1)) at_zero in
            ap₂ (λ (x y : ℕ). x + y) c (ap₂ (λ (x y : ℕ). x + y) a b)

        lowest : 0 < v.count + (l + r) → Lowest K 0 v.low ws × (e₀ ≡ low_elem (node_in K ws 0).places)
        unfolding look_node
        lowest h =
            let some : 0 < inside always (node_in K ws 0).places = sane-some K top ws 0 root.lies.some fine (omega (arith, held-is)) in
            let p : v.low ≡ low (node_in K ws 0).places = ap (λ (u : Seen). u.low) seen-root ∙ low-place K ws 0 some in
            let at : 2 + v.low * place_words ≡ place_in K 0 v.low = ap (λ (i : ℕ). i + v.low * place_words) at-two in
            (record { place = p; held = some }, read ∙ ap (elem_at ws) at ∙ ap (λ (j : ℕ). elem_at ws (place_in K 0 j)) p ∙ low-elem K ws 0 some)

        pub opened : Opened K top ws (Some (record { held = v.count + (l + r); place = v.low; low = e₀ }))
        opened = record {
          ok = fine;
          few = omega (arith, left-few, right-few, count-few, root.lies.few);
          held = held-is;
          gives = lowest;
        }

-- ---- the ruling
abbrev rest : Task
rest = record { job = job.Rest; node = 0; place = 0 }

module _ (c h place : ℕ) (e : Element) (r : Request) where
  pub still-rules : (a : Answer) → rule c r h e ≡ ruling a none → (g : Ruled) → (g.answer ≡ a) × (g.task ≡ record { job = job.Rest; node = 0; place = 0 }) → Rules c h place e r g
  unfolding op_of
  still-rules a f g p = record {
    answer = p.0 ∙ ap (λ (u : Ruling). u.answer) (sym f);
    work = ap work_of p.1 ∙ ap (λ (u : Ruling). work u.op 0) (sym f);
    gives = subst (λ (t : Task). GivesAt t.job t.place place h) (sym p.1) tt;
  }

  pub rules-as : (r' : Request) → r ≡ r' → (g : Ruled) → Rules c h place e r' g → Rules c h place e r g
  rules-as r' f g p = subst (λ (r : Request). Rules c h place e r g) (sym f) p

module _ (c h place : ℕ) (e x : Element) (t : Bool) (tag : t ≡ untagged x) where
  pub push-bare : t ≡ true → rule c (Push x) h e ≡ ruling (Err NoTag) none
  unfolding rule
  push-bare y = rw (sym tag ∙ y)

  pub replace-bare : t ≡ true → rule c (Replace x) h e ≡ ruling (Err NoTag) none
  unfolding rule
  replace-bare y = rw (sym tag ∙ y)

  module _ (y : t ≡ false) where
    pub push-full : c ≤ h → rule c (Push x) h e ≡ ruling (Err Full) none
    unfolding rule
    push-full l = rw (sym tag ∙ y, le-ltb h c l)

    pub push_goes : h < c → Rules c h place e (Push x) (record { answer = (Ok None); task = record { job = job.Put x; node = 0; place = 0 } })
    unfolding rule op_of
    push_goes l = record { answer = rw (sym tag ∙ y, lt-ltb h c l); work = rw (sym tag ∙ y, lt-ltb h c l); gives = tt }

    pub replace-empty : h ≡ 0 → rule c (Replace x) h e ≡ ruling (Err Empty) none
    unfolding rule
    replace-empty z = rw (sym tag ∙ y, eq-eqb h 0 z)

    pub replace-goes : (h ≡ 0 → ⊥) → Rules c h place e (Replace x) (record { answer = Ok (Some e); task = record { job = job.Swap x; node = 0; place = place } })
    unfolding rule op_of
    replace-goes n = record { answer = rw (sym tag ∙ y, ne_eqb h 0 n); work = rw (sym tag ∙ y, ne_eqb h 0 n); gives = (refl, omega arith) }

module _ (c h place : ℕ) (e : Element) where
  pub idle-is : rule c Idle h e ≡ ruling (Ok None) none
  unfolding rule
  idle-is = refl

  pub pop-empty : h ≡ 0 → rule c Pop h e ≡ ruling (Err Empty) none
  unfolding rule
  pop-empty z = rw (eq-eqb h 0 z)

  pub pop_goes : (h ≡ 0 → ⊥) → Rules c h place e Pop (record { answer = Ok (Some e); task = record { job = job.Take; node = 0; place = place } })
  unfolding rule op_of
  pop_goes n = record { answer = rw (ne_eqb h 0 n); work = rw (ne_eqb h 0 n); gives = (refl, omega arith) }

-- the element counts only where something is held
rule-low : (c : ℕ) (r : Request) (h : ℕ) (e e' : Element) → (0 < h → e ≡ e') → rule c r h e ≡ rule c r h e'
unfolding rule
rule-low c Idle h e e' f = refl
rule-low c (Push x) h e e' f = refl
rule-low c Pop h e e' f = go (eqb h 0) refl
  where
    go : (b : Bool) → eqb h 0 ≡ b → cond b (ruling (Err Empty) none) (ruling (Ok (Some e)) take) ≡ cond b (ruling (Err Empty) none) (ruling (Ok (Some e')) take)
    go true z = refl
    go false z = let n : h ≡ 0 → ⊥ = eqb-false h 0 z in ap (λ (e : Element). ruling (Ok (Some e)) take) (f (omega arith))
rule-low c (Replace x) h e e' f = ap (cond (untagged x) (ruling (Err NoTag) none)) (go (eqb h 0) refl)
  where
    go : (b : Bool) → eqb h 0 ≡ b → cond b (ruling (Err Empty) none) (ruling (Ok (Some e)) (swap x)) ≡ cond b (ruling (Err Empty) none) (ruling (Ok (Some e')) (swap x))
    go true z = refl
    go false z = let n : h ≡ 0 → ⊥ = eqb-false h 0 z in ap (λ (e : Element). ruling (Ok (Some e)) (swap x)) (f (omega arith))

-- ---- the ruling at the root
idle-rules : (r : Request) → asks r ≡ false → (c h : ℕ) (e : Element) → rule c r h e ≡ ruling (Ok None) none
unfolding asks rule
idle-rules Idle z c h e = refl
idle-rules (Push x) z c h e = absurd (true≢false z)
idle-rules Pop z c h e = absurd (true≢false z)
idle-rules (Replace x) z c h e = absurd (true≢false z)

rest_in : (K k : ℕ) (ws : List ℕ) (t : Task) → t ≡ record { job = job.Rest; node = 0; place = 0 } → TaskIn K k 0 t ws
unfolding op_of works
rest_in K k ws t e = subst (λ (t : Task). TaskIn K k 0 t ws) (sym e) (record { node = omega arith; sane = λ z. absurd (false≢true z); gives = tt })

module _ (K top : ℕ) (ws : List ℕ) (r : Request) (t : Bool) (asked : t ≡ asks r) where
  pub root-idle : not t ≡ true → (g : Ruled) → (g.answer ≡ Ok None) × (g.task ≡ record { job = job.Rest; node = 0; place = 0 }) → RulesFor K top r ws (Some g)
  root-idle y g p k f =
      let z : asks r ≡ false = sym asked ∙ not-true t y in
      let u : rule_at K (suc k) r ws ≡ ruling (Ok None) none = idle-rules r z (room K (suc k)) (held_in K (suc k) ws) (low_elem (node_in K ws 0).places) in
      let w = still-rules (room K (suc k)) (held_in K (suc k) ws) 0 (low_elem (node_in K ws 0).places) r (Ok None) u g p in
      record { ok = rw z refl; answer = w.answer; work = w.work; task = rest_in K k ws g.task p.1 }

  module _ (y : not t ≡ false) where
    asked_is : (k : ℕ) → top ≡ room K k → asked_ok K (suc k) r ws ≡ sane_at K top ws 0
    asked_is k f = let z : asks r ≡ true = sym asked ∙ not-false t y in rw z (ap (λ (l : ℕ). sane_at K l ws 0) (sym f))

    pub root-bad : sane_at K top ws 0 ≡ false → (o : Option Ruled) → o ≡ None → RulesFor K top r ws o
    root-bad bad o e = subst (RulesFor K top r ws) (sym e) (λ k f. asked_is k f ∙ bad)

    module _ (o : Root) (op : Read K top ws o) (g : Ruled) (rules : Rules (K + (top + top)) o.held o.place o.low r g) where
      rule-is : (k : ℕ) → top ≡ room K k → rule (K + (top + top)) r o.held o.low ≡ rule_at K (suc k) r ws
      unfolding room
      rule-is k f =
          rule-low (K + (top + top)) r o.held o.low (low_elem (node_in K ws 0).places) (λ h. (op.gives h).1)
          ∙ ap₂ (λ (c h : ℕ). rule c r h (low_elem (node_in K ws 0).places)) (ap (λ (l : ℕ). K + (l + l)) f) op.held

      by-job : (b : Job) (m p : ℕ) → m ≡ 0 → GivesAt b p o.place o.held → GivesBy b K m p ws
      by-job job.Rest m p e a = tt
      by-job (job.Put x) m p e a = tt
      by-job job.Take m p e a = subst (λ (i : ℕ). Lowest K i p ws) (sym e) (subst (λ (j : ℕ). Lowest K 0 j ws) (sym a.0) (op.gives a.1).0)
      by-job (job.Swap x) m p e a = subst (λ (i : ℕ). Lowest K i p ws) (sym e) (subst (λ (j : ℕ). Lowest K 0 j ws) (sym a.0) (op.gives a.1).0)

      pub root-rules : RulesFor K top r ws (Some g)
      root-rules k f =
          let at : g.task.node ≡ 0 = ap (λ (w : Work). w.node) rules.work in
          let here : 0 + g.task.node ≡ 0 = omega (arith, at) in
          record {
            ok = asked_is k f ∙ op.ok;
            answer = rules.answer ∙ ap (λ (u : Ruling). u.answer) (rule-is k f);
            work = rules.work ∙ ap (λ (u : Ruling). work u.op 0) (rule-is k f);
            task = record {
              node = omega (arith, at);
              sane = λ w. ap₂ (λ (l m : ℕ). sane_at K l ws m) (sym f) here ∙ op.ok;
              gives = by-job g.task.job (0 + g.task.node) g.task.place here rules.gives;
            };
          }
