-- Lists of calls through C, each on what the one before left: what a call answers is the number returned and `out`. These are definitions.
use Rattle.std.specs.Prelude.{◌∷◌, ◌≡◌}
use Rattle.laws.specs.Prelude.{Answer, Bool, Element, List, Refusal, Request, [], cond, eqb, number_of, refusal_number, ℕ}
use Rattle.bucket_model.specs.Prelude.{Said, Store, answered, ask, store}
use Rattle.card_bucket.specs.Bucket.{bucket_pop, bucket_push, bucket_replace}
use Rattle.card_cluster.specs.ClockedCluster.{clocked_cluster_cycle, clocked_cluster_drain}
use Rattle.card_cluster.specs.Cluster.{cluster_pop, cluster_push, cluster_replace}
use Rattle.card_tree.specs.Fair.{fair_pop, fair_push, fair_reset}
use Rattle.card_tree_clock.specs.History.{brought_by, code_of}
use Rattle.card_bucket.specs.Ports.{ports_pop, ports_push, ports_replace}
use Rattle.card_tree.specs.Tree.{tree_pop, tree_push, tree_replace}
use Rattle.card_words.specs.Heard.{Ask, heard, heard_all, heard_element, pop, push, replace, wanted}
use Rattle.promise.specs.Prelude.{Holds, Least, Step, answers, leaves, refusal_of, step}
use Rattle.card_words.specs.Out.{answer_out, count_after, CountAfter}
use Rattle.cluster_records.specs.History.{Memory, memory}
use Rattle.fair_model.specs.Calls.{Desk, desk}
use Rattle.fair_model.specs.Promise as fair
use Rattle.fair_model.specs.Answers.{FairAnswer}
use Rattle.std.specs.Prelude.{Ok, None, Err, Some}
use Rattle.fair_model.specs.declared.FairRefusal.{FairRefusal}
use Rattle.fair_model.specs.declared.FairRefusal.TheVariants.{BadStrip, ClockSpent, NotEmpty, Queue}
use Rattle.ports_model.specs.Lists as ports
use Rattle.card_words.specs.Out.{answer_words, zeros}

-- ---- a queue that does one operation at a time: what C hears of an answer. A push is lent no `out`
abbrev pub reply_c : List ℕ → Ask → Answer → CountAfter
reply_c out (push x) a = count_after (number_of a) out
reply_c out pop a = count_after (number_of a) (answer_out a out)
reply_c out (replace x) a = count_after (number_of a) (answer_out a out)

-- .. of a list of them
unfoldable pub replies_c : List ℕ → List Ask → List Answer → List CountAfter
replies_c out [] said = []
replies_c out (c ∷ cs) [] = []
replies_c out (c ∷ cs) (a ∷ said) = reply_c out c a ∷ replies_c out cs said

abbrev pub through_c : {S : Type 0} → (Request → S → Step Answer S) → List ℕ → Ask → S → Step CountAfter S
through_c queue out c s = step (reply_c out c (queue (wanted c) s).said) (queue (wanted c) s).next

-- what a refused call leaves: everything, and zeros where it is lent an `out`
abbrev pub refused_c : {S : Type 0} → List ℕ → Ask → S → Refusal → Step CountAfter S
refused_c out (push x) s n = step (count_after (refusal_number n) out) s
refused_c out pop s n = step (count_after (refusal_number n) (zeros answer_words out)) s
refused_c out (replace x) s n = step (count_after (refusal_number n) (zeros answer_words out)) s

-- ---- the exported calls, `out` lent to each
module _ (m levels : ℕ) (out : List ℕ) where
  abbrev pub tree_c : Ask → List ℕ → Step CountAfter (List ℕ)
  tree_c (push x) ws = let b = tree_push m levels ws x.rank.0 x.tag.0 x.length.0 in step (count_after b.number out) b.store
  tree_c pop ws = let b = tree_pop m levels ws out in step (count_after b.number b.out) b.store
  tree_c (replace x) ws = let b = tree_replace m levels ws x.rank.0 x.tag.0 x.length.0 out in step (count_after b.number b.out) b.store

  abbrev pub cluster_c : Ask → List ℕ → Step CountAfter (List ℕ)
  cluster_c (push x) ws = let b = cluster_push m levels ws x.rank.0 x.tag.0 x.length.0 in step (count_after b.number out) b.store
  cluster_c pop ws = let b = cluster_pop m levels ws out in step (count_after b.number b.out) b.store
  cluster_c (replace x) ws = let b = cluster_replace m levels ws x.rank.0 x.tag.0 x.length.0 out in step (count_after b.number b.out) b.store

  -- fair ranks: C hands over flow, weight, tag and length
  abbrev pub fair_c : fair.Call → Desk → Step CountAfter Desk
  fair_c (fair.push f w n t) d = let b = fair_push m levels d.state d.store f w t n in step (count_after b.number out) (desk b.state b.store)
  fair_c fair.pop d = let b = fair_pop m levels d.state d.store out in step (count_after b.number b.out) (desk b.state b.store)
  fair_c fair.reset d = let b = fair_reset m levels d.state d.store in step (count_after b.number out) (desk b.state b.store)

  -- the clocked cluster heap: a cycle with a request, and a drain
  abbrev pub stages_c : Request → Memory → Step CountAfter Memory
  stages_c r x =
      let b = clocked_cluster_cycle m levels x.words x.records (code_of r) (brought_by r).rank.0 (brought_by r).tag.0 (brought_by r).length.0 out in
      step (count_after b.number b.out) (memory b.records b.store)

  abbrev pub stages_drain_c : ℕ → Memory → Step CountAfter Memory
  stages_drain_c budget x = let b = clocked_cluster_drain m levels x.words x.records budget out in step (count_after b.number b.out) (memory b.records b.store)

module _ (storeys n : ℕ) (out : List ℕ) where
  abbrev pub bucket_c : Ask → Store → Step CountAfter Store
  bucket_c (push x) s = let b = bucket_push s.bits s.words storeys n x.rank.0 x.tag.0 x.length.0 in step (count_after b.number out) (store b.bits b.words)
  bucket_c pop s = let b = bucket_pop s.bits s.words storeys n out in step (count_after b.number b.out) (store b.bits b.words)
  bucket_c (replace x) s = let b = bucket_replace s.bits s.words storeys n x.rank.0 x.tag.0 x.length.0 out in step (count_after b.number b.out) (store b.bits b.words)

-- a call at a port
pub record PortAsk : Type 0 where
  pub port : ℕ
  pub asks : Ask

module _ (storeys n ports : ℕ) (out : List ℕ) where
  abbrev port_by : ℕ → Ask → Store → Step CountAfter Store
  port_by p (push x) s = let b = ports_push s.bits s.words storeys n ports p x.rank.0 x.tag.0 x.length.0 in step (count_after b.number out) (store b.bits b.words)
  port_by p pop s = let b = ports_pop s.bits s.words storeys n ports p out in step (count_after b.number b.out) (store b.bits b.words)
  port_by p (replace x) s = let b = ports_replace s.bits s.words storeys n ports p x.rank.0 x.tag.0 x.length.0 out in step (count_after b.number b.out) (store b.bits b.words)

  abbrev pub ports_c : PortAsk → Store → Step CountAfter Store
  ports_c c s = port_by c.port c.asks s

-- what is heard at a port, and which call of the model it is
abbrev pub port_hears : PortAsk → CountAfter → Said
port_hears c a = answered (heard (wanted c.asks) a)

abbrev pub port_asks : PortAsk → ports.Ask
port_asks c = ports.at c.port (ask (wanted c.asks))

-- ---- what is heard of fair ranks: 9, 10 and 11 are theirs, the others the queue's
abbrev pub fair_refusal_of : ℕ → FairRefusal
fair_refusal_of n = cond (eqb n 9) BadStrip (cond (eqb n 10) ClockSpent (cond (eqb n 11) NotEmpty (Queue (refusal_of n))))

abbrev pub fair_taken : fair.Call → List ℕ → FairAnswer
fair_taken (fair.push f w n t) out = Ok None
fair_taken fair.pop out = Ok (Some (heard_element out))
fair_taken fair.reset out = Ok None

unfoldable pub fair_hears : fair.Call → CountAfter → FairAnswer
fair_hears c a = cond (eqb a.number 0) (fair_taken c a.out) (Err (fair_refusal_of a.number))

-- ---- a machine on the clock, with the by-value machine s that the memory x holds beside it
module _ {X S : Type 0} (call_c : Request → X → Step CountAfter X) (queue : Request → S → Step Answer S) (held : S → (Element → Bool) → ℕ) where
  pub record HeardBeside (rs : List Request) (x : X) (s : S) : Type 0 where
    pub same : heard_all heard rs (answers call_c rs x) ≡ answers queue rs s
    pub holds : Holds (held (leaves queue rs s)) rs (heard_all heard rs (answers call_c rs x))
    pub least : (r : Request) → Least (held (leaves queue rs s)) r (heard r (call_c r (leaves call_c rs x)).said)
