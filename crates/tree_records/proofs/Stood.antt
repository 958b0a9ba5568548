-- One record over a cycle: what the host's record becomes, that it can be read again, and that a record of nothing stands until it is loaded.
use Rattle.laws.specs.Prelude.{Bool, List, Request, ◌+◌, ◌<◌, ◌∙◌, ◌≡◌, ◌≤◌, add-zero, and_left, and_right, and-true, ap, ap₂, arith, cond, eq-or-lt_of_le, eqb, eqb-false, false, false≢true, get_or, get_or-replicate, get_or-set_other, get_or-set_same, le-leb, le_of_suc-le-suc, leb, leb-true, length, length-set, not, not-suc-le-zero, pred, refl, set, subst, suc, sym, true, true≢false, zero, zero-add, ℕ, ⊎_elim}
use Rattle.tree_clock_model.proofs.Laws.{after-before, cycled-either, works-set}
use Rattle.tree_clock_model.specs.Prelude.{Works, cycle_run, cycled, fresh, landed, record_at, record_count, records_after, rule_now, works_of}
use Rattle.tree_clock_model.specs.declared.State.{State}
use Rattle.tree_records.proofs.Back.{back_at, works-few}
use Rattle.tree_records.specs.Lent.{handed, kinds_ok, no_record, record_by, record_of, standing, stands, work_of, works_back, works_read}
use Rattle.tree_records.specs.declared.Record.{Record}
use Rattle.tree_model.proofs.Laws.{is_none}
use Rattle.tree_model.specs.Prelude.{Levels, idle, is_nothing, rest_words, step_work, top, under, work}
use Rattle.tree_model.specs.declared.Op.{Op}
use Rattle.tree_model.specs.declared.Op.TheVariants.{Nothing, Put, Swap, Take}
use Rattle.tree_model.specs.declared.Work.{Work}

-- ---- one record read and written
-- what was written is read again, but that nothing is read as a record that stands
read-written : (o : Op) (n : ℕ) → work_of (record_by o n) ≡ cond (is_nothing o) standing (record { op = o; node = n })
unfolding work_of is_nothing
read-written Nothing n = refl
read-written (Put x) n = refl
read-written Take n = refl
read-written (Swap x) n = refl

read-work : (o : Op) (n : ℕ) → work (work_of (record_by o n)).op (work_of (record_by o n)).node ≡ work o n
unfolding work_of work
read-work Nothing n = refl
read-work (Put x) n = refl
read-work Take n = refl
read-work (Swap x) n = refl

-- a record of nothing is written as zeros
none_written : (o : Op) (n : ℕ) → is_nothing o ≡ true → record_by o n ≡ no_record
unfolding is_nothing
none_written Nothing n e = refl
none_written (Put x) n e = absurd (false≢true e)
none_written Take n e = absurd (false≢true e)
none_written (Swap x) n e = absurd (false≢true e)

kind-low : (o : Op) (n : ℕ) → (record_by o n).kind ≤ 3
kind-low Nothing n = omega arith
kind-low (Put x) n = omega arith
kind-low Take n = omega arith
kind-low (Swap x) n = omega arith

-- a record of kind 0 is read as one that stands ..
pub read-nothing : (r : Record) → r.kind ≡ 0 → work_of r ≡ standing
unfolding work_of
read-nothing r e = rw e

-- .. and is the only one that is
nothing-kind : (r : Record) → r.kind ≤ 3 → is_nothing (work_of r).op ≡ true → r.kind ≡ 0
unfolding work_of is_nothing
nothing-kind r h = go (eqb r.kind 1) refl (eqb r.kind 2) refl (eqb r.kind 3) refl
  where
    reads : Bool → Bool → Bool → Work
    reads a b c = cond a (record { op = Put (record { rank = record { 0 = r.rank }; tag = record { 0 = r.tag }; length = record { 0 = r.length } }); node = r.node })
        (cond b (record { op = Take; node = r.node }) (cond c (record { op = Swap (record { rank = record { 0 = r.rank }; tag = record { 0 = r.tag }; length = record { 0 = r.length } }); node = r.node }) standing))

    go : (a : Bool) → eqb r.kind 1 ≡ a → (b : Bool) → eqb r.kind 2 ≡ b → (c : Bool) → eqb r.kind 3 ≡ c → is_nothing (reads a b c).op ≡ true → r.kind ≡ 0
    go true p b q c s e = absurd (false≢true e)
    go false p true q c s e = absurd (false≢true e)
    go false p false q true s e = absurd (false≢true e)
    go false p false q false s e = omega (arith, h, eqb-false r.kind 1 p, eqb-false r.kind 2 q, eqb-false r.kind 3 s)

-- any other is work
pub some-kind : (r : Record) → r.kind ≤ 3 → (r.kind ≡ 0 → ⊥) → is_nothing (work_of r).op ≡ false
some-kind r h ne = go (is_nothing (work_of r).op) refl
  where
    go : (b : Bool) → is_nothing (work_of r).op ≡ b → b ≡ false
    go false e = refl
    go true e = absurd (ne (nothing-kind r h e))

-- ---- what is handed over, by cases
module _ (r : Record) (w : Work) where
  pub handed-stood : stands w ≡ true → handed r w ≡ r
  unfolding handed
  handed-stood e = rw e

  pub handed-new : stands w ≡ false → handed r w ≡ record_of w
  unfolding handed
  handed-new e = rw e

-- over zeros it is what is written, standing or not
pub handed-zeros : (w : Work) → handed no_record w ≡ record_of w
handed-zeros w = go (stands w) refl
  where
    go : (b : Bool) → stands w ≡ b → handed no_record w ≡ record_of w
    go true e = handed-stood no_record w e ∙ sym (none_written w.op w.node (and_left (is_nothing w.op) (not (eqb w.node 0)) e))
    go false e = handed-new no_record w e

pub some-new : (w : Work) → is_nothing w.op ≡ false → stands w ≡ false
some-new w e = rw e

-- HANDED ON: read again it is the same work
pub handed-work : (r : Record) (w : Work) → (stands w ≡ true → r.kind ≡ 0) → work (work_of (handed r w)).op (work_of (handed r w)).node ≡ work w.op w.node
unfolding work
handed-work r w h = go (stands w) refl
  where
    go : (b : Bool) → stands w ≡ b → work (work_of (handed r w)).op (work_of (handed r w)).node ≡ work w.op w.node
    go true e =
        ap (λ (p : Record). work (work_of p).op (work_of p).node) (handed-stood r w e) ∙ ap (λ (v : Work). work v.op v.node) (read-nothing r (h e))
        ∙ ap (λ (o : Op). work o w.node) (sym (is_none w.op (and_left (is_nothing w.op) (not (eqb w.node 0)) e)))
    go false e = ap (λ (p : Record). work (work_of p).op (work_of p).node) (handed-new r w e) ∙ read-work w.op w.node

pub handed-kind : (r : Record) (w : Work) → (stands w ≡ true → r.kind ≡ 0) → (handed r w).kind ≤ 3
handed-kind r w h = go (stands w) refl
  where
    go : (b : Bool) → stands w ≡ b → (handed r w).kind ≤ 3
    go true e = rw (handed-stood r w e) (omega (arith, h e))
    go false e = rw (handed-new r w e) (kind-low w.op w.node)

-- ---- a cycle: what a record w becomes where the level above leaves q for it
landed-some : (q w : Work) → is_nothing q.op ≡ false → landed q w ≡ q
unfolding landed
landed-some q w e = rw e

landed-still : (q w : Work) → is_nothing q.op ≡ true → is_nothing w.op ≡ true → landed q w ≡ w
unfolding landed
landed-still q w e f = rw (e, f)

landed-done : (q w : Work) → is_nothing q.op ≡ true → is_nothing w.op ≡ false → landed q w ≡ idle
unfolding landed
landed-done q w e f = rw (e, f)

pub idle-new : stands idle ≡ false
unfolding is_nothing
idle-new = refl

standing-none : is_nothing Nothing ≡ true
unfolding is_nothing
standing-none = refl

pub standing-stands : stands standing ≡ true
unfolding is_nothing
standing-stands = refl

-- what stands after a cycle stood before it
pub landed-stands : (q w : Work) → stands (landed q w) ≡ true → stands w ≡ true
landed-stands q w e = go (is_nothing q.op) refl (is_nothing w.op) refl
  where
    go : (a : Bool) → is_nothing q.op ≡ a → (b : Bool) → is_nothing w.op ≡ b → stands w ≡ true
    go false p b f = absurd (true≢false (sym e ∙ ap stands (landed-some q w p) ∙ some-new q p))
    go true p false f = absurd (true≢false (sym e ∙ ap stands (landed-done q w p f) ∙ idle-new))
    go true p true f = ap stands (sym (landed-still q w p f)) ∙ e

-- TWICE: a cycle on the record handed over leaves what the by-value cycle on the work leaves, handed over
pub handed-twice : (r : Record) (w q : Work) → (stands w ≡ true → r.kind ≡ 0) → handed (handed r w) (landed q (work_of (handed r w))) ≡ handed r (landed q w)
handed-twice r w q h = go (is_nothing q.op) refl (stands w) refl (is_nothing w.op) refl
  where
    over : Record → Record
    over p = handed p (landed q (work_of p))

    zeros : (p : Record) → handed p idle ≡ no_record
    zeros p = handed-new p idle idle-new

    go : (a : Bool) → is_nothing q.op ≡ a → (b : Bool) → stands w ≡ b → (c : Bool) → is_nothing w.op ≡ c → over (handed r w) ≡ handed r (landed q w)
    go false p b s c f =
        ap (handed (handed r w)) (landed-some q (work_of (handed r w)) p) ∙ handed-new (handed r w) q (some-new q p) ∙ sym (ap (handed r) (landed-some q w p) ∙ handed-new r q (some-new q p))
    go true p true s c f =
        let none : is_nothing w.op ≡ true = and_left (is_nothing w.op) (not (eqb w.node 0)) s in
        ap over (handed-stood r w s)
        ∙ ap (λ (v : Work). handed r (landed q v)) (read-nothing r (h s)) ∙ ap (handed r) (landed-still q standing p standing-none) ∙ handed-stood r standing standing-stands
        ∙ sym (ap (handed r) (landed-still q w p none) ∙ handed-stood r w s)
    go true p false s true f =
        ap over (handed-new r w s ∙ none_written w.op w.node f)
        ∙ ap (λ (v : Work). handed no_record (landed q v)) (read-nothing no_record refl) ∙ ap (handed no_record) (landed-still q standing p standing-none) ∙ handed-stood no_record standing standing-stands
        ∙ sym (ap (handed r) (landed-still q w p f) ∙ handed-new r w s ∙ none_written w.op w.node f)
    go true p false s false f =
        ap over (handed-new r w s)
        ∙ ap (handed (record_of w)) (landed-done q (work_of (record_of w)) p (ap (λ (v : Work). is_nothing v.op) (read-written w.op w.node) ∙ some_read)) ∙ zeros (record_of w)
        ∙ sym (ap (handed r) (landed-done q w p f) ∙ zeros r)
      where
        some_read : is_nothing (cond (is_nothing w.op) standing w).op ≡ false
        some_read = rw f f

-- ---- all records of a cycle
-- what is left for record j of k levels, the first of which is loaded with q
unfoldable pub loads : (m k : ℕ) → Work → Works k → Levels k → ℕ → Work
loads m zero q p ls j = idle
loads m (suc k) q p ls zero = q
loads m (suc k) q p ls (suc j) = loads m k (step_work m p.0 ls.0 (top k ls.1)) p.1 ls.1 j

after-at : (m k : ℕ) (q : Work) (i : ℕ) (rs : List Work) (ls : Levels k) → i + k ≤ length rs → (j : ℕ) → j < k
    → get_or (records_after m k q i rs ls) (i + j) idle ≡ landed (loads m k q (works_of k rs i) ls j) (get_or rs (i + j) idle)
unfolding records_after works_of loads
after-at m zero q i rs ls h j l = absurd (not-suc-le-zero l)
after-at m (suc k) q i rs ls h zero l =
    rw (add-zero i)
    (after-before m k (step_work m (record_at rs i) ls.0 (top k ls.1)) (suc i) (set rs i (landed q (get_or rs i idle))) ls.1 i (omega arith)
    ∙ get_or-set_same rs i (landed q (get_or rs i idle)) idle (omega (arith, h)))
after-at m (suc k) q i rs ls h (suc j) l =
    let w : Work = landed q (get_or rs i idle) in
    let q₁ : Work = step_work m (record_at rs i) ls.0 (top k ls.1) in
    let on : suc i + j ≡ i + suc j = omega arith in
    ap (λ (a : ℕ). get_or (records_after m k q₁ (suc i) (set rs i w) ls.1) a idle) (sym on)
    ∙ after-at m k q₁ (suc i) (set rs i w) ls.1 (omega (arith, h, length-set rs i w)) j (le_of_suc-le-suc l)
    ∙ ap₂ (λ (p : Works k) (v : Work). landed (loads m k q₁ p ls.1 j) v) (works-set k rs (suc i) i w (omega arith)) (get_or-set_other rs i (suc i + j) w idle (λ e. omega arith) ∙ ap (λ (a : ℕ). get_or rs a idle) on)

-- ---- the records that stand are of kind 0
abbrev pub Stood : ℕ → List Work → List Record → Type 0
Stood k vs rs = (i : ℕ) → i < k → stands (get_or vs i idle) ≡ true → (get_or rs i no_record).kind ≡ 0

pub read_at : (k : ℕ) (rs : List Record) → k ≤ record_count → (j : ℕ) → j < k → get_or (works_read k rs) j idle ≡ work_of (get_or rs j no_record)
unfolding works_read
read_at zero rs h j l = absurd (not-suc-le-zero l)
read_at (suc k) rs h j l =
    ⊎_elim
    (λ e. ap (λ (j : ℕ). get_or (works_read (suc k) rs) j idle) e ∙ get_or-set_same (works_read k rs) k (work_of (get_or rs k no_record)) idle (omega (arith, works-few k rs)) ∙ ap (λ (j : ℕ). work_of (get_or rs j no_record)) (sym e))
    (λ l. get_or-set_other (works_read k rs) k j (work_of (get_or rs k no_record)) idle (λ e. omega arith) ∙ read_at k rs (omega arith) j l)
    (eq-or-lt_of_le (le_of_suc-le-suc l))

pub kind_at : (k : ℕ) (rs : List Record) → kinds_ok k rs ≡ true → (j : ℕ) → j < k → (get_or rs j no_record).kind ≤ 3
unfolding kinds_ok
kind_at zero rs e j l = absurd (not-suc-le-zero l)
kind_at (suc k) rs e j l =
    ⊎_elim
    (λ p. subst (λ (j : ℕ). (get_or rs j no_record).kind ≤ 3) (sym p) (leb-true (get_or rs k no_record).kind 3 (and_right (kinds_ok k rs) (leb (get_or rs k no_record).kind 3) e)))
    (λ l. kind_at k rs (and_left (kinds_ok k rs) (leb (get_or rs k no_record).kind 3) e) j l)
    (eq-or-lt_of_le (le_of_suc-le-suc l))

pub kinds-of : (k : ℕ) (rs : List Record) → ((j : ℕ) → j < k → (get_or rs j no_record).kind ≤ 3) → kinds_ok k rs ≡ true
unfolding kinds_ok
kinds-of zero rs f = refl
kinds-of (suc k) rs f = and-true (kinds_ok k rs) (leb (get_or rs k no_record).kind 3) (kinds-of k rs (λ j l. f j (omega (arith, l)))) (le-leb (get_or rs k no_record).kind 3 (f k (omega arith)))

-- as they are read ..
pub stood-read : (k : ℕ) (rs : List Record) → k ≤ record_count → kinds_ok k rs ≡ true → Stood k (works_read k rs) rs
stood-read k rs h e i l s =
    let r : Record = get_or rs i no_record in
    nothing-kind r (kind_at k rs e i l) (and_left (is_nothing (work_of r).op) (not (eqb (work_of r).node 0)) (ap stands (sym (read_at k rs h i l)) ∙ s))

-- .. of a cleared machine ..
pub stood-fresh : (k : ℕ) (rs : List Record) → k ≤ record_count → Stood k fresh.records rs
unfolding fresh
stood-fresh k rs h i l s = absurd (true≢false (sym s ∙ ap stands (get_or-replicate record_count i idle idle (omega (arith, l, h))) ∙ idle-new))

-- .. and after any cycle
module _ (m levels : ℕ) (r : Request) (s : State) (ws : List ℕ) where
  abbrev pub q : Work
  q = rest_words m (pred levels) (work (rule_now m levels r s ws).op 0) 0 1 ws

  pub run_at : pred levels ≤ length s.records → (j : ℕ) → j < pred levels
      → get_or (cycle_run m levels r (rule_now m levels r s ws) s ws).state.records j idle
      ≡ landed (loads m (pred levels) q (works_of (pred levels) s.records 0) (under m (pred levels) ws 0 1) j) (get_or s.records j idle)
  unfolding cycle_run
  run_at h j l =
      subst (λ (a : ℕ). get_or (records_after m (pred levels) q 0 s.records (under m (pred levels) ws 0 1)) a idle ≡ landed (loads m (pred levels) q (works_of (pred levels) s.records 0) (under m (pred levels) ws 0 1) j) (get_or s.records a idle))
      (zero-add j) (after-at m (pred levels) q 0 s.records (under m (pred levels) ws 0 1) (omega (arith, h)) j l)

  pub stood_on : (rs : List Record) → pred levels ≤ length s.records → Stood (pred levels) s.records rs → Stood (pred levels) (cycled m levels r s ws).state.records rs
  stood_on rs h f =
      cycled-either m levels r s ws (λ o. Stood (pred levels) o.state.records rs) f f
      (λ _ _ i l e. f i l (landed-stands (loads m (pred levels) q (works_of (pred levels) s.records 0) (under m (pred levels) ws 0 1) i) (get_or s.records i idle) (ap stands (sym (run_at h i l)) ∙ e)))

-- ---- so that what was written back can be read again
works-ext : (k : ℕ) (us vs : List Work) (i : ℕ) → ((j : ℕ) → i ≤ j → j < i + k → record_at us j ≡ record_at vs j) → works_of k us i ≡ works_of k vs i
unfolding works_of
works-ext zero us vs i f = refl
works-ext (suc k) us vs i f =
    ap₂ (λ (w : Work) (p : Works k). (w, p)) (f i (omega arith) (omega arith)) (works-ext k us vs (suc i) (λ j a b. f j (omega arith) (omega arith)))

module _ (k : ℕ) (vs : List Work) (rs : List Record) (long : k ≤ length rs) (f : Stood k vs rs) where
  pub kinds-back : kinds_ok k (works_back k vs rs) ≡ true
  kinds-back = kinds-of k (works_back k vs rs) (λ j l. subst (λ (r : Record). r.kind ≤ 3) (sym (back_at k vs rs long j l)) (handed-kind (get_or rs j no_record) (get_or vs j idle) (f j l)))

  pub works-back : k ≤ record_count → works_of k (works_read k (works_back k vs rs)) 0 ≡ works_of k vs 0
  unfolding record_at
  works-back few =
      works-ext k (works_read k (works_back k vs rs)) vs 0 (λ j a l.
      ap (λ (w : Work). work w.op w.node) (read_at k (works_back k vs rs) few j (omega (arith, l)) ∙ ap work_of (back_at k vs rs long j (omega (arith, l))))
      ∙ handed-work (get_or rs j no_record) (get_or vs j idle) (f j (omega (arith, l))))
