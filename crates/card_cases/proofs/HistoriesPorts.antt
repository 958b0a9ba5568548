-- A list of calls through C at several ports, from any memory, cleared first: what is heard are the answers of the plain lists under 02's rule of acceptance.
use Rattle.laws.specs.Prelude.{Answer, Exactly, Ladder, List, Refusal, Request, [], ◌∙◌, ◌∷◌, ◌≡◌, ◌≤◌, ap, fine, le-leb, length, map, means-and, number_of, refl, ℕ, Err}
use Rattle.bucket_model.specs.Calls as bucket
use Rattle.bucket_model.specs.Prelude.{Said, Store, answered, store}
use Rattle.card_bucket.specs.Bucket.{bucket_answered}
use Rattle.card_bucket.specs.Ports.{ports_clear, shape}
use Rattle.card_cases.proofs.Through as through
use Rattle.card_cases.proofs.Through.{reply-heard}
use Rattle.card_cases.specs.Through.{PortAsk, port_asks, port_hears, ports_c, refused_c, through_c}
use Rattle.card_words.proofs.Heard.{heard-same}
use Rattle.card_words.specs.Heard.{Ask, heard_all, pop, push, replace, wanted}
use Rattle.card_words.specs.Out.{answer_words, CountAfter}
use Rattle.ports_model.proofs.Exactly as table
use Rattle.ports_model.proofs.Laws.{kind, limits-mean, ports-answer, shape-means}
use Rattle.ports_model.specs.Prelude.{Fair, Shaped, asked, call_table, called, cleared, none, served}
use Rattle.ports_model.specs.declared.Shape.{Shape}
use Rattle.promise.proofs.Handed.{exactly-as}
use Rattle.promise.specs.Prelude.{Step, answers, ladder, step}

-- one port as a queue
abbrev port_queue : Shape → ℕ → Request → Store → Step Answer Store
port_queue s p r x = step (asked s p r x).answer (store (asked s p r x).bits (asked s p r x).words)

abbrev pub port_table : Shape → ℕ → Ask → Store → Ladder Refusal
port_table s p c x = ladder (call_table s p x.bits x.words (wanted c)) fine

abbrev step_of : bucket.Outcome → Step Answer Store
step_of o = step o.answer (store o.bits o.words)

module _ (d n k : ℕ) (out : List ℕ) (room : answer_words ≤ length out) where
  abbrev s : Shape
  s = shape d n k

  port-is : (p : ℕ) (c : Ask) (x : Store) → ports_c d n k out (record { port = p; asks = c }) x ≡ through_c (port_queue s p) out c x
  unfolding bucket_answered asked
  port-is p (push e) x = refl
  port-is p pop x = rw (le-leb answer_words (length out) room)
  port-is p (replace e) x = rw (le-leb answer_words (length out) room)

  -- ---- EXACTLY, at each port
  by-model : (p : ℕ) (c : Ask) (x : Store) → Exactly (λ (o : Step Answer Store). number_of o.said) (λ r. step (Err r) x) (port_queue s p (wanted c) x) (port_table s p c x)
  unfolding asked
  by-model p (push e) x =
      exactly-as (λ (o : bucket.Outcome). number_of o.answer) (λ r. bucket.refused r x.bits x.words) step_of (λ (o : Step Answer Store). number_of o.said) (λ o. refl) _ (port_table s p (push e) x) (table.exactly-push s p x.bits x.words e)
  by-model p pop x =
      exactly-as (λ (o : bucket.Outcome). number_of o.answer) (λ r. bucket.refused r x.bits x.words) step_of (λ (o : Step Answer Store). number_of o.said) (λ o. refl) _ (port_table s p pop x) (table.exactly-pop s p x.bits x.words)
  by-model p (replace e) x =
      exactly-as (λ (o : bucket.Outcome). number_of o.answer) (λ r. bucket.refused r x.bits x.words) step_of (λ (o : Step Answer Store). number_of o.said) (λ o. refl) _ (port_table s p (replace e) x) (table.exactly-replace s p x.bits x.words e)

  pub ports-exactly : (p : ℕ) (c : Ask) (x : Store)
      → Exactly (λ (o : Step CountAfter Store). o.said.number) (refused_c out c x) (ports_c d n k out (record { port = p; asks = c }) x) (port_table (shape d n k) p c x)
  ports-exactly p c x = through.exactly (port_queue s p) (kind s p) out room (λ c x. ports_c d n k out (record { port = p; asks = c }) x) (port-is p) c x (port_table s p c x) (by-model p c x)

  -- ---- HEARD
  same : (c : PortAsk) (x y : Store) → x ≡ y → port_hears c (ports_c d n k out c x).said ≡ (called s (port_asks c) y).said
  unfolding called
  same c x y e =
      ap (λ (o : Step CountAfter Store). port_hears c o.said) (port-is c.port c.asks x)
      ∙ ap answered (reply-heard out room c.asks (asked s c.port (wanted c.asks) x).answer (kind s c.port (wanted c.asks) x))
      ∙ ap (λ (y : Store). answered (asked s c.port (wanted c.asks) y).answer) e

  keep : (c : PortAsk) (x y : Store) → x ≡ y → (ports_c d n k out c x).next ≡ (called s (port_asks c) y).next
  unfolding called
  keep c x y e = ap (λ (o : Step CountAfter Store). o.next) (port-is c.port c.asks x) ∙ ap (λ (y : Store). (port_queue s c.port (wanted c.asks) y).next) e

  seen : (cs : List PortAsk) (x : Store) → answers (λ c. called s (port_asks c)) cs x ≡ answers (called s) (map port_asks cs) x
  unfolding answers
  seen [] x = refl
  seen (c ∷ cs) x = ap (λ (l : List Said). (called s (port_asks c) x).said ∷ l) (seen cs (called s (port_asks c) x).next)

  module _ (lim b w : List ℕ) (sh : Shaped (shape d n k) b w) (fair : Fair (shape d n k) lim) (cs : List PortAsk) where
    abbrev clear : Store
    clear = store (ports_clear b w d n k lim).bits (ports_clear b w d n k lim).words

    pub ports-cleared : (ports_clear b w d n k lim).number ≡ 0
    unfolding cleared
    ports-cleared = rw ((means-and (shape-means s b w) (limits-mean s lim)).holds (sh, fair))

    -- on the words, as the model has them ..
    pub ports-same : heard_all port_hears cs (answers (ports_c d n k out) cs (store (ports_clear b w d n k lim).bits (ports_clear b w d n k lim).words)) ≡ answers (called (shape d n k)) (map port_asks cs) (store (ports_clear b w d n k lim).bits (ports_clear b w d n k lim).words)
    ports-same = heard-same port_hears (ports_c d n k out) (λ c. called s (port_asks c)) (λ (x y : Store). x ≡ y) same keep cs clear clear refl ∙ seen cs clear

    -- .. and so as the plain lists are: holds, fifo, floors and ceilings are read off them
    pub ports-heard : heard_all port_hears cs (answers (ports_c d n k out) cs (store (ports_clear b w d n k lim).bits (ports_clear b w d n k lim).words)) ≡ answers (served (shape d n k) lim) (map port_asks cs) none
    ports-heard = ports-same ∙ ports-answer s lim b w sh fair (map port_asks cs)
