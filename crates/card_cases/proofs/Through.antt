-- The calls of a queue that does one operation at a time, through C: once for every such queue.
use Rattle.laws.specs.Prelude.{Answer, Bool, Element, Exactly, Ladder, List, Pop, Push, Refusal, Replace, Request, [], ◌∙◌, ◌∷◌, ◌≡◌, ◌≤◌, ap, blank, length, map, number_of, refl, subst, sym, ℕ, Err}
use Rattle.card_cases.specs.Through.{HeardBeside, refused_c, replies_c, reply_c, through_c}
use Rattle.card_words.proofs.Heard.{answers-seen, heard-in-step, heard-promised, heard-push, heard-same, heard-told, leaves-seen}
use Rattle.card_words.specs.Heard.{Ask, heard, heard_all, Heard, pop, push, replace, wanted}
use Rattle.card_words.specs.Out.{answer_words, CountAfter}
use Rattle.promise.proofs.Handed.{exactly-as}
use Rattle.promise.specs.Prelude.{Holds, Kind, Least, Step, answers, leaves, step}

-- an answer is heard as it was given
pub reply-heard : (out : List ℕ) → answer_words ≤ length out → (c : Ask) (a : Answer) → (number_of a ≡ 0 → Kind (wanted c) a) → heard (wanted c) (reply_c out c a) ≡ a
reply-heard out room (push x) a k = heard-push x a out k
reply-heard out room pop a k = heard-told Pop a out room k
reply-heard out room (replace x) a k = heard-told (Replace x) a out room k

module _ {S : Type 0} (queue : Request → S → Step Answer S) (kind : (r : Request) (s : S) → number_of (queue r s).said ≡ 0 → Kind r (queue r s).said) (out : List ℕ) (room : answer_words ≤ length out)
    (call_c : Ask → S → Step CountAfter S) (is : (c : Ask) (s : S) → call_c c s ≡ through_c queue out c s) where
  abbrev seen : Ask → S → Step Answer S
  seen c s = queue (wanted c) s

  same : (c : Ask) (x s : S) → x ≡ s → heard (wanted c) (call_c c x).said ≡ (seen c s).said
  same c x s e = ap (λ (o : Step CountAfter S). heard (wanted c) o.said) (is c x) ∙ reply-heard out room c (seen c x).said (kind (wanted c) x) ∙ ap (λ (s : S). (seen c s).said) e

  keep : (c : Ask) (x s : S) → x ≡ s → (call_c c x).next ≡ (seen c s).next
  keep c x s e = ap (λ (o : Step CountAfter S). o.next) (is c x) ∙ ap (λ (s : S). (seen c s).next) e

  -- HISTORY: what is heard of a list of calls is what the queue answers, and what they leave is what it leaves
  pub history : (cs : List Ask) (s : S) → heard_all (λ c. heard (wanted c)) cs (answers call_c cs s) ≡ answers queue (map wanted cs) s
  history cs s = heard-same (λ c. heard (wanted c)) call_c seen (λ (x s : S). x ≡ s) same keep cs s s refl ∙ answers-seen wanted queue cs s

  pub history-leaves : (cs : List Ask) (s : S) → leaves call_c cs s ≡ leaves queue (map wanted cs) s
  history-leaves cs s = heard-in-step (λ c. heard (wanted c)) call_c seen (λ (x s : S). x ≡ s) same keep cs s s refl ∙ leaves-seen wanted queue cs s

  -- .. and the numbers and words themselves are those of the queue's answers
  pub replies : (cs : List Ask) (s : S) → answers call_c cs s ≡ replies_c out cs (answers queue (map wanted cs) s)
  unfolding answers replies_c
  replies [] s = refl
  replies (c ∷ cs) s =
      ap (λ (o : Step CountAfter S). o.said ∷ answers call_c cs o.next) (is c s) ∙ ap (λ (l : List CountAfter). reply_c out c (queue (wanted c) s).said ∷ l) (replies cs (queue (wanted c) s).next)

  -- PROMISED: so the queue's promises hold of what is heard
  pub promised : (stored : S → (Element → Bool) → ℕ) (cs : List Ask) (s : S) → Holds (stored (leaves queue (map wanted cs) s)) (map wanted cs) (answers queue (map wanted cs) s)
      → ((r : Request) → Least (stored (leaves queue (map wanted cs) s)) r (queue r (leaves queue (map wanted cs) s)).said) → Heard wanted call_c stored cs s
  promised stored cs s holds least =
      heard-promised wanted call_c seen (λ (x s : S). x ≡ s) same keep stored stored (λ x s e f. ap (λ (s : S). stored s f) e) cs s s refl
      (subst (λ (v : S). Holds (stored v) (map wanted cs) (answers seen cs s)) (sym (leaves-seen wanted queue cs s)) (subst (λ (l : List Answer). Holds (stored (leaves queue (map wanted cs) s)) (map wanted cs) l) (sym (answers-seen wanted queue cs s)) holds))
      (λ c. subst (λ (v : S). Least (stored v) (wanted c) (queue (wanted c) v).said) (sym (leaves-seen wanted queue cs s)) (least (wanted c)))

  -- EXACTLY: each number is returned exactly for its cause, and leaves everything, with zeros in an `out` that is lent
  pub exactly : (c : Ask) (s : S) (l : Ladder Refusal) → Exactly (λ (o : Step Answer S). number_of o.said) (λ n. step (Err n) s) (queue (wanted c) s) l
      → Exactly (λ (o : Step CountAfter S). o.said.number) (refused_c out c s) (call_c c s) l
  unfolding blank
  exactly (push x) s l e =
      subst (λ (o : Step CountAfter S). Exactly (λ (o : Step CountAfter S). o.said.number) (refused_c out (push x) s) o l) (sym (is (push x) s))
      (exactly-as (λ (o : Step Answer S). number_of o.said) (λ n. step (Err n) s) (λ (o : Step Answer S). step (reply_c out (push x) o.said) o.next) (λ (o : Step CountAfter S). o.said.number) (λ o. refl) (queue (Push x) s) l e)
  exactly pop s l e =
      subst (λ (o : Step CountAfter S). Exactly (λ (o : Step CountAfter S). o.said.number) (refused_c out pop s) o l) (sym (is pop s))
      (exactly-as (λ (o : Step Answer S). number_of o.said) (λ n. step (Err n) s) (λ (o : Step Answer S). step (reply_c out pop o.said) o.next) (λ (o : Step CountAfter S). o.said.number) (λ o. refl) (queue Pop s) l e)
  exactly (replace x) s l e =
      subst (λ (o : Step CountAfter S). Exactly (λ (o : Step CountAfter S). o.said.number) (refused_c out (replace x) s) o l) (sym (is (replace x) s))
      (exactly-as (λ (o : Step Answer S). number_of o.said) (λ n. step (Err n) s) (λ (o : Step Answer S). step (reply_c out (replace x) o.said) o.next) (λ (o : Step CountAfter S). o.said.number) (λ o. refl) (queue (Replace x) s) l e)

-- ---- a machine on the clock, whose memory holds a by-value machine
module _ {X S : Type 0} (call_c : Request → X → Step CountAfter X) (queue : Request → S → Step Answer S) (R : X → S → Type 0) (same : (r : Request) (x : X) (s : S) → R x s → heard r (call_c r x).said ≡ (queue r s).said)
    (keep : (r : Request) (x : X) (s : S) → R x s → R (call_c r x).next (queue r s).next) (held : S → (Element → Bool) → ℕ) where
  pub beside : (rs : List Request) (x : X) (s : S) → R x s → Holds (held (leaves queue rs s)) rs (answers queue rs s) → ((r : Request) → Least (held (leaves queue rs s)) r (queue r (leaves queue rs s)).said)
      → HeardBeside call_c queue held rs x s
  beside rs x s i holds least =
      record {
        same = told;
        holds = subst (λ (l : List Answer). Holds (held (leaves queue rs s)) rs l) (sym told) holds;
        least = λ r. subst (Least (held (leaves queue rs s)) r) (sym (same r (leaves call_c rs x) (leaves queue rs s) (heard-in-step heard call_c queue R same keep rs x s i))) (least r);
      }
    where
      told : heard_all heard rs (answers call_c rs x) ≡ answers queue rs s
      told = heard-same heard call_c queue R same keep rs x s i
