-- A list of calls through C from any memory, cleared first: tree, cluster heap and bucket queue. What is heard is the queue's, and so are its promises and its table of refusals.
use Rattle.laws.specs.Prelude.{Answer, Exactly, Ladder, List, Refusal, Request, [], ◌∙◌, ◌∷◌, ◌≡◌, ◌≤◌, ap, blank, element, fine, le-leb, length, map, number_of, refl, untagged, ℕ, Err}
use lib.Dec.{lit≤}
use Rattle.bucket_model.proofs.Exactly as bucket_table
use Rattle.bucket_model.proofs.Laws.{answer_of, served-holds, served-least, shape-means}
use Rattle.bucket_model.proofs.Kind as bucket_kind
use Rattle.bucket_model.proofs.Promises as bucket_promises
use Rattle.bucket_model.specs.Calls as bucket
use Rattle.bucket_model.specs.Prelude.{Laid, Reached, Shaped, Store, after, ask, asked, bucket_queue, call_table, called, plain_says, plain_with, queue, says, store, stored_by}
use Rattle.bucket_model.specs.declared.Lay.{Lay}
use Rattle.card_bucket.specs.Bucket.{bucket_answered, bucket_clear}
use Rattle.card_cluster.specs.Cluster.{cluster_clear}
use Rattle.card_tree.specs.Tree.{tree_clear}
use Rattle.card_cases.proofs.Through as through
use Rattle.card_cases.specs.Through.{bucket_c, cluster_c, refused_c, replies_c, through_c, tree_c}
use Rattle.card_words.specs.Heard.{Ask, Heard, pop, push, replace, wanted}
use Rattle.card_words.specs.Out.{answer_words, count_after, CountAfter}
use Rattle.card_words.specs.Store.{store_answered}
use Rattle.cluster_model.proofs.Damages as cluster_shape
use Rattle.cluster_model.proofs.Exactly as cluster_table
use Rattle.cluster_model.proofs.Promises as cluster_promises
use Rattle.cluster_model.specs.Promise as cluster
use Rattle.promise.proofs.Handed.{exactly-as}
use Rattle.promise.specs.Prelude.{Outcome, Step, answers, ladder, leaves, left, step}
use Rattle.tree_model.proofs.Exactly as tree_table
use Rattle.tree_model.proofs.Promises as tree_promises
use Rattle.tree_model.specs.Calls as tree
use Rattle.tree_model.specs.Damage as tree_room
use Rattle.tree_model.specs.Prelude.{Shape, refusals, stored_count, tree_queue}

-- an outcome of one slice as a step
abbrev step_of : Outcome (List ℕ) → Step Answer (List ℕ)
step_of o = step o.answer o.words

-- ---- the tree
module _ (m levels : ℕ) (out : List ℕ) (room : answer_words ≤ length out) where
  tree_is : (c : Ask) (ws : List ℕ) → tree_c m levels out c ws ≡ through_c (tree_queue m levels) out c ws
  unfolding store_answered
  tree_is (push x) ws = refl
  tree_is pop ws = rw (le-leb answer_words (length out) room)
  tree_is (replace x) ws = rw (le-leb answer_words (length out) room)

  pub tree-exactly : (c : Ask) (ws : List ℕ) → Exactly (λ (o : Step CountAfter (List ℕ)). o.said.number) (refused_c out c ws) (tree_c m levels out c ws) (refusals m levels (wanted c) ws)
  tree-exactly c ws =
      through.exactly (tree_queue m levels) (tree_table.kind m levels) out room (tree_c m levels out) tree_is c ws (refusals m levels (wanted c) ws)
      (exactly-as (λ (o : Outcome (List ℕ)). number_of o.answer) (left ws) step_of (λ (o : Step Answer (List ℕ)). number_of o.said) (λ o. refl) (tree.called m levels (wanted c) ws) (refusals m levels (wanted c) ws) (tree_table.exactly m levels ws (wanted c)))

  module _ (ws : List ℕ) (sh : Shape m levels (length ws)) where
    pub tree-cleared : (tree_clear m levels ws).number ≡ 0
    tree-cleared = ap (λ (o : Outcome (List ℕ)). number_of o.answer) (tree_table.cleared-fine m levels ws (tree_table.is-shape m levels (length ws) sh))

    -- HEARD
    pub tree-heard : (cs : List Ask) → Heard wanted (tree_c m levels out) (stored_count (tree_room.room m levels)) cs (tree_clear m levels ws).store
    tree-heard cs =
        through.promised (tree_queue m levels) (tree_table.kind m levels) out room (tree_c m levels out) tree_is (stored_count (tree_room.room m levels)) cs (tree_clear m levels ws).store
        (tree_promises.holds m ws (map wanted cs) levels sh) (tree_promises.least m ws (map wanted cs) levels sh)

-- ---- the cluster heap
module _ (K levels : ℕ) (out : List ℕ) (room : answer_words ≤ length out) where
  cluster-is : (c : Ask) (ws : List ℕ) → cluster_c K levels out c ws ≡ through_c (cluster.cluster_queue K levels) out c ws
  unfolding store_answered
  cluster-is (push x) ws = refl
  cluster-is pop ws = rw (le-leb answer_words (length out) room)
  cluster-is (replace x) ws = rw (le-leb answer_words (length out) room)

  pub cluster-exactly : (c : Ask) (ws : List ℕ) → Exactly (λ (o : Step CountAfter (List ℕ)). o.said.number) (refused_c out c ws) (cluster_c K levels out c ws) (cluster.refusals K levels (wanted c) ws)
  cluster-exactly c ws =
      through.exactly (cluster.cluster_queue K levels) (cluster_table.kind K levels) out room (cluster_c K levels out) cluster-is c ws (cluster.refusals K levels (wanted c) ws)
      (exactly-as (λ (o : Outcome (List ℕ)). number_of o.answer) (left ws) step_of (λ (o : Step Answer (List ℕ)). number_of o.said) (λ o. refl) _ (cluster.refusals K levels (wanted c) ws) (cluster_table.exactly K levels ws (wanted c)))

  module _ (ws : List ℕ) (sh : cluster.Shape K levels (length ws)) where
    pub cluster-cleared : (cluster_clear K levels ws).number ≡ 0
    cluster-cleared = ap (λ (o : Outcome (List ℕ)). number_of o.answer) (cluster_table.cleared-fine K levels ws (cluster_shape.is-shape K levels (length ws) sh))

    -- HEARD
    pub cluster-heard : (cs : List Ask) → Heard wanted (cluster_c K levels out) (cluster.stored_count K levels) cs (cluster_clear K levels ws).store
    cluster-heard cs =
        through.promised (cluster.cluster_queue K levels) (cluster_table.kind K levels) out room (cluster_c K levels out) cluster-is (cluster.stored_count K levels) cs (cluster_clear K levels ws).store
        (cluster_promises.holds K ws (map wanted cs) levels sh) (cluster_promises.least K ws (map wanted cs) levels sh)

-- ---- the bucket queue, of two storeys and of three
-- requests on the words, as the model has them and as a queue
seen-after : (k : Lay) (qs : List Request) (s : Store) → leaves (bucket_queue k) qs s ≡ after k (map ask qs) s
unfolding leaves after called
seen-after k [] s = refl
seen-after k (q ∷ qs) s = seen-after k qs (bucket_queue k q s).next

seen-says : (k : Lay) (qs : List Request) (s : Store) → answers (bucket_queue k) qs s ≡ map answer_of (says k (map ask qs) s)
unfolding answers says called
seen-says k [] s = refl
seen-says k (q ∷ qs) s = ap (λ (l : List Answer). (asked k q s).answer ∷ l) (seen-says k qs (bucket_queue k q s).next)

abbrev pub bucket_tables : (k : Lay) → Ask → Store → Ladder Refusal
bucket_tables k c s = ladder (call_table k s.bits s.words (wanted c)) fine

abbrev bucket_step : bucket.Outcome → Step Answer Store
bucket_step o = step o.answer (store o.bits o.words)

module _ (d n : ℕ) (out : List ℕ) (room : answer_words ≤ length out) where
  abbrev k : Lay
  k = queue d n

  bucket-is : (c : Ask) (s : Store) → bucket_c d n out c s ≡ through_c (bucket_queue k) out c s
  unfolding bucket_answered asked
  bucket-is (push x) s = refl
  bucket-is pop s = rw (le-leb answer_words (length out) room)
  bucket-is (replace x) s = rw (le-leb answer_words (length out) room)

  table : (c : Ask) (s : Store) → Exactly (λ (o : Step Answer Store). number_of o.said) (λ n. step (Err n) s) (bucket_queue k (wanted c) s) (bucket_tables k c s)
  table c s =
      exactly-as (λ (o : bucket.Outcome). number_of o.answer) (λ r. bucket.refused r s.bits s.words) bucket_step (λ (o : Step Answer Store). number_of o.said) (λ o. refl) (asked k (wanted c) s) (bucket_tables k c s)
      (bucket_table.exactly k s.bits s.words (wanted c))

  pub bucket-exactly : (c : Ask) (s : Store) → Exactly (λ (o : Step CountAfter Store). o.said.number) (refused_c out c s) (bucket_c d n out c s) (bucket_tables k c s)
  bucket-exactly c s = through.exactly (bucket_queue k) (bucket_kind.kind k) out room (bucket_c d n out) bucket-is c s (bucket_tables k c s) (table c s)

  module _ (b w : List ℕ) (sh : Shaped (queue d n) b w) where
    laid : Laid (queue d n)
    laid = bucket_promises.queue-laid d n b w sh

    -- what C's clear leaves
    abbrev clear : Store
    clear = store (bucket_clear b w d n).bits (bucket_clear b w d n).words

    reached : (qs : List Request) → Reached (queue d n) (leaves (bucket_queue (queue d n)) qs clear)
    reached qs = record { bits = b; words = w; shaped = sh; calls = map ask qs; is = seen-after (queue d n) qs clear }

    pub bucket-cleared : (bucket_clear b w d n).number ≡ 0
    unfolding bucket.cleared
    bucket-cleared = rw ((shape-means (queue d n) b w).holds sh)

    -- HEARD
    pub bucket-heard : (cs : List Ask) → Heard wanted (bucket_c d n out) (stored_by (queue d n)) cs (store (bucket_clear b w d n).bits (bucket_clear b w d n).words)
    bucket-heard cs =
        through.promised (bucket_queue (queue d n)) (bucket_kind.kind (queue d n)) out room (bucket_c d n out) bucket-is (stored_by (queue d n)) cs clear
        (served-holds (queue d n) laid b w sh (map wanted cs)) (λ r. served-least (queue d n) laid (leaves (bucket_queue (queue d n)) (map wanted cs) clear) (reached (map wanted cs)) r)

    -- .. and the numbers and words are those of the plain list, first in, first out among equal ranks
    pub bucket-plain : (cs : List Ask) → answers (bucket_c d n out) cs (store (bucket_clear b w d n).bits (bucket_clear b w d n).words) ≡ replies_c out cs (map answer_of (plain_says (queue d n) (map ask (map wanted cs)) []))
    bucket-plain cs =
        through.replies (bucket_queue (queue d n)) (bucket_kind.kind (queue d n)) out room (bucket_c d n out) bucket-is cs clear
        ∙ ap (replies_c out cs) (seen-says (queue d n) (map wanted cs) clear ∙ ap (map answer_of) (bucket_promises.answers (queue d n) laid b w sh (map ask (map wanted cs))))

-- THREE: in plain numbers at three storeys, where a store has half a million words. N = 3, on slices of any contents that are long enough, cleared: push 262143/3/30, 5/50/500 and 5/40/400; a fourth is refused 5, rank 262144
-- is refused 4; replace 7/70/700 gives 5/50/500; pops give 5/40/400, 7/70/700 and 262143/3/30, then 6
abbrev three_calls : List Ask
three_calls =
    push (element 262143 3 30) ∷ push (element 5 50 500) ∷ push (element 5 40 400) ∷ push (element 1 2 3) ∷ push (element 262144 2 3)
    ∷ replace (element 7 70 700) ∷ pop ∷ pop ∷ pop ∷ pop ∷ []

abbrev three_replies : List CountAfter
three_replies =
    count_after 0 (9 ∷ 8 ∷ 7 ∷ 6 ∷ []) ∷ count_after 0 (9 ∷ 8 ∷ 7 ∷ 6 ∷ []) ∷ count_after 0 (9 ∷ 8 ∷ 7 ∷ 6 ∷ []) ∷ count_after 5 (9 ∷ 8 ∷ 7 ∷ 6 ∷ []) ∷ count_after 4 (9 ∷ 8 ∷ 7 ∷ 6 ∷ [])
    ∷ count_after 0 (5 ∷ 50 ∷ 500 ∷ 6 ∷ []) ∷ count_after 0 (5 ∷ 40 ∷ 400 ∷ 6 ∷ []) ∷ count_after 0 (7 ∷ 70 ∷ 700 ∷ 6 ∷ []) ∷ count_after 0 (262143 ∷ 3 ∷ 30 ∷ 6 ∷ []) ∷ count_after 6 (0 ∷ 0 ∷ 0 ∷ 6 ∷ []) ∷ []

three-listed : replies_c (9 ∷ 8 ∷ 7 ∷ 6 ∷ []) three_calls (map answer_of (plain_says (queue 3 3) (map ask (map wanted three_calls)) [])) ≡ three_replies
unfolding replies_c plain_says plain_with untagged blank
three-listed = refl

pub three-heard : (b w : List ℕ) → Shaped (queue 3 3) b w → answers (bucket_c 3 3 (9 ∷ 8 ∷ 7 ∷ 6 ∷ [])) three_calls (store (bucket_clear b w 3 3).bits (bucket_clear b w 3 3).words) ≡ three_replies
three-heard b w sh = bucket-plain 3 3 (9 ∷ 8 ∷ 7 ∷ 6 ∷ []) (lit≤ tt) b w sh three_calls ∙ three-listed
