-- Every call gives each refusal exactly for its cause, and leaves behind what the table says.
use Rattle.laws.specs.Prelude.{BadShape, Bool, Damaged, Exactly, Idle, Pop, Push, Refusal, Replace, Request, ◌≡◌, ◌≤◌, ap, cond, cond-path, count_number, false, fine, means-leb, means-ltb, number_of, refl, runs_idle, suc, sym, true, zero, ℕ, Err, Ok, None}
use Rattle.bucket_model.specs.declared.Lay.{Lay}
use Rattle.bucket_model.specs.Prelude.{word}
use Rattle.promise.proofs.Calls.{last-all, last-told}
use Rattle.promise.proofs.Tabled as tabled
use Rattle.promise.proofs.Tabled.{Goes, Passed}
use Rattle.promise.specs.Prelude.{Barred, Each, IsPush, Ruling, Table, Told, Untagged, bars, decided, ends, ladder, needs, ruling, stops}
use Rattle.bucket_clock_model.specs.Clock.{late_table}
use Rattle.bucket_clock_model.specs.Damage.{HeldFit, StagesFit, CycleFit}
use Rattle.bucket_clock_model.specs.Desk.{clock_cleared, clock_held, Desk, desk_ok, rule_now, cycle_done, cycled, cycle_ok, cycle_outcome, CycleOutcome, cycle_still, waiting}
use Rattle.bucket_clock_model.specs.Promise.{count_table, cycle_left, cycle_table, wipe_table}
use Rattle.bucket_clock_model.proofs.Damage.{desk-means, cycle-means}

abbrev pub said : CycleOutcome → ℕ
said o = number_of o.answer

-- two outcomes by one table are the same where each of its refusals is, and what no test refuses
same-each : {O A B : Type 0} (f : A → O) (g : B → O) (bad : Refusal → A) (ill : Refusal → B) (a : Table) (o : A) (p : B) → Each (λ x. f (bad x) ≡ g (ill x)) a → f o ≡ g p → f (decided bad a o) ≡ g (decided ill a p)
same-each f g bad ill ends o p h e = e
same-each f g bad ill (needs x true P l) o p h e = same-each f g bad ill l o p h.1 e
same-each f g bad ill (needs x false P l) o p h e = h.0
same-each f g bad ill (stops x true D l) o p h e = h.0
same-each f g bad ill (stops x false D l) o p h e = same-each f g bad ill l o p h.1 e
same-each f g bad ill (bars x true D l) o p h e = same-each f g bad ill l o p h.1 e
same-each f g bad ill (bars x false D l) o p h e = h.0

-- ---- the table of 4, 7, 5 and 6

pub late-each : (P : Refusal → Type 0) → ((n : Refusal) → runs_idle n ≡ true → P n) → (ranks c : ℕ) (q : Request) (h : ℕ) → Each P (late_table ranks c q h)
late-each P f ranks c Idle h = last-all P (f _ refl) (f _ refl) (f _ refl) Idle h c
late-each P f ranks c (Push x) h = (f _ refl, last-all P (f _ refl) (f _ refl) (f _ refl) (Push x) h c)
late-each P f ranks c Pop h = last-all P (f _ refl) (f _ refl) (f _ refl) Pop h c
late-each P f ranks c (Replace x) h = (f _ refl, last-all P (f _ refl) (f _ refl) (f _ refl) (Replace x) h c)

pub late-told : (ranks c : ℕ) (q : Request) (h : ℕ) → (IsPush q → h ≤ c) → Told (late_table ranks c q h)
late-told ranks c Idle h m = last-told Idle h c m
late-told ranks c (Push x) h m = (means-ltb x.rank.0 ranks, λ _. last-told (Push x) h c m)
late-told ranks c Pop h m = last-told Pop h c m
late-told ranks c (Replace x) h m = (means-ltb x.rank.0 ranks, λ _. last-told (Replace x) h c m)

module _ (k : Lay) where
  push-held : (q : Request) (m : Desk) → HeldFit k q m.words → IsPush q → word m.words k.held ≤ k.nodes
  push-held Idle m f p = absurd p
  push-held (Push x) m f p = f
  push-held Pop m f p = absurd p
  push-held (Replace x) m f p = absurd p

  -- ---- an idle cycle reads no more than any other

  idle-fit : (d : ℕ) (q : Request) (m : Desk) → StagesFit k 0 d (waiting q 0) m → StagesFit k 0 d (waiting Idle 0) m
  idle-fit zero q m f = (tt, tt)
  idle-fit (suc d) q m f = ((tt, tt), f.1)

  pub calm : (q : Request) (m : Desk) → CycleFit k q m → CycleFit k Idle m
  calm q m f = (tt, idle-fit k.storeys (rule_now k q m).op m f.1)

  idle-runs : (q : Request) (m : Desk) → desk_ok k m ≡ true → cycle_ok k q m ≡ true → cycled k Idle m ≡ cycle_done k (ruling (Ok None) Idle) m
  unfolding cycled
  idle-runs q m e f = rw (e, (cycle-means k Idle m).holds (calm q m ((cycle-means k q m).says f))) refl

  module _ (q : Request) (m : Desk) where
    abbrev done : CycleOutcome
    done = cycle_done k (ruling (Ok None) q) m

    -- a cycle is what its table decides
    decides : cycled k q m ≡ decided (cycle_left k m) (cycle_table k q m) done
    unfolding cycled
    decides = go (desk_ok k m) (cycle_ok k q m) refl refl
      where
        late : Table
        late = late_table k.ranks k.nodes q (word m.words k.held)

        go : (a b : Bool) → desk_ok k m ≡ a → cycle_ok k q m ≡ b
            → cond a (cond b (cycle_done k (rule_now k q m) m) (cycle_still m Damaged)) (cycle_still m BadShape) ≡ cond a (cond b (decided (cycle_left k m) late done) (cycle_still m Damaged)) (cycle_still m BadShape)
        go true true e f =
            same-each (λ (g : Ruling Request). cycle_done k g m) (λ (o : CycleOutcome). o) (λ n. ruling (Err n) Idle) (cycle_left k m) late (ruling (Ok None) q) done
            (late-each (λ n. cycle_done k (ruling (Err n) Idle) m ≡ cycle_left k m n) (λ n i. rw i (ap (λ (o : CycleOutcome). cycle_outcome (Err n) o.leaves o.desk) (sym (idle-runs q m e f)))) k.ranks k.nodes q (word m.words k.held)) refl
        go true false e f = refl
        go false b e f = refl

    pub goes : Goes said (cycle_left k m) (cycle_table k q m) done (cycled k q m)
    goes =
        record {
          told = (desk-means k m, λ _. (cycle-means k q m, λ f. late-told k.ranks k.nodes q (word m.words k.held) (push-held q m f.0)));
          is = decides;
          done = refl;
          number = left-number;
        }
      where
        left-number : (n : Refusal) → said (cycle_left k m n) ≡ number_of (Err n)
        left-number n = cond-path said (runs_idle n) (cycle_outcome (Err n) (cycled k Idle m).leaves (cycled k Idle m).desk) (cycle_still m n) (number_of (Err n)) refl refl

    -- EXACTLY: each refusal of a cycle is given for its cause and for that cause only, and leaves behind what the rules say
    pub exactly-cycle : Exactly said (cycle_left k m) (cycled k q m) (ladder (cycle_table k q m) fine)
    exactly-cycle = tabled.exactly goes

    -- KIND: a cycle that is not refused answers that it is done
    pub kind : said (cycled k q m) ≡ 0 → (cycled k q m).answer ≡ Ok None
    kind = tabled.keeps goes (λ o. o.answer ≡ Ok None) refl

    -- BARRED: an element without a tag is never let in
    pub barred : Barred q (cycled k q m).answer
    barred u e = no-tag q u (tabled.granted goes e).1.1
      where
        no-tag : (q : Request) → Untagged q → Passed (late_table k.ranks k.nodes q (word m.words k.held)) → ⊥
        no-tag Idle u p = u
        no-tag (Push x) u p = p.1.0 u
        no-tag Pop u p = u
        no-tag (Replace x) u p = p.1.0 u

  -- clear and held, whatever stands in the machine
  module _ (m : Desk) where
    pub exactly-clear : Exactly said (cycle_still m) (clock_cleared k m) (ladder (wipe_table k m) fine)
    unfolding clock_cleared
    exactly-clear = tabled.exactly {a = wipe_table k m} (record { told = (desk-means k m, λ _. tt); is = refl; done = refl; number = λ n. refl })

    pub exactly-held : Exactly count_number Err (clock_held k m) (ladder (count_table k m) fine)
    unfolding clock_held
    exactly-held = tabled.exactly {a = count_table k m} (record { told = (desk-means k m, λ _. (means-leb (word m.words k.held) k.nodes, λ _. tt)); is = refl; done = refl; number = λ n. refl })
