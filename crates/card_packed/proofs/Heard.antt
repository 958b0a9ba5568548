-- A list of calls through C at any heaps, from any memory, cleared first: what is heard are the model's answers, what is left are the model's words; so its promises hold of what is heard.
use Rattle.laws.specs.Prelude.{Answer, List, Pop, Replace, Request, [], ◌<◌, ◌∙◌, ◌∷◌, ◌≡◌, ◌≤◌, ap, le-leb, length, map, refl, subst, sym, ℕ}
use Rattle.card_packed.specs.Packed.{packed_clear}
use Rattle.card_words.specs.Store.{store_answered}
use Rattle.card_packed.specs.Through.{HeapAsk, HeardAt, at_of, heap_by, heap_hears, heard_c, left_c, packed_c}
use Rattle.card_words.proofs.Heard.{heard-in-step, heard-push, heard-same, heard-told}
use Rattle.card_words.specs.Heard.{Ask, heard, pop, push, replace, wanted}
use Rattle.card_words.specs.Out.{answer_words}
use Rattle.packed_model.proofs.Exactly as model
use Rattle.packed_model.proofs.Promises as promises
use Rattle.packed_model.specs.Calls.{called}
use Rattle.packed_model.specs.Causes.{Shape}
use Rattle.packed_model.specs.Promise.{after, packed_queue, said, stored}
use Rattle.promise.specs.Forest.{At, seen_by}
use Rattle.promise.specs.Prelude.{Holds, Least, answers, leaves}

module _ (H levels : ℕ) (out : List ℕ) (room : answer_words ≤ length out) where
  -- ---- one call
  said-is : (h : ℕ) (c : Ask) (ws : List ℕ) → heard (wanted c) (heap_by H levels out h c ws).said ≡ (called H levels h (wanted c) ws).answer
  unfolding store_answered
  said-is h (push x) ws = heard-push x (called H levels h (wanted (push x)) ws).answer out (model.kind H levels h (wanted (push x)) ws)
  said-is h pop ws = rw (le-leb answer_words (length out) room) (heard-told Pop (called H levels h Pop ws).answer out room (model.kind H levels h Pop ws))
  said-is h (replace x) ws = rw (le-leb answer_words (length out) room) (heard-told (Replace x) (called H levels h (Replace x) ws).answer out room (model.kind H levels h (Replace x) ws))

  left_is : (h : ℕ) (c : Ask) (ws : List ℕ) → (heap_by H levels out h c ws).next ≡ (called H levels h (wanted c) ws).words
  unfolding store_answered
  left_is h (push x) ws = refl
  left_is h pop ws = rw (le-leb answer_words (length out) room) refl
  left_is h (replace x) ws = rw (le-leb answer_words (length out) room) refl

  -- ---- a list of them
  same : (c : HeapAsk) (x y : List ℕ) → x ≡ y → heap_hears c (packed_c H levels out c x).said ≡ (packed_queue H levels (at_of c) y).said
  same c x y e = said-is c.heap c.asks x ∙ ap (λ (v : List ℕ). (called H levels c.heap (wanted c.asks) v).answer) e

  keep : (c : HeapAsk) (x y : List ℕ) → x ≡ y → (packed_c H levels out c x).next ≡ (packed_queue H levels (at_of c) y).next
  keep c x y e = left_is c.heap c.asks x ∙ ap (λ (v : List ℕ). (called H levels c.heap (wanted c.asks) v).words) e

  seen : (cs : List HeapAsk) (x : List ℕ) → answers (λ c. packed_queue H levels (at_of c)) cs x ≡ answers (packed_queue H levels) (map at_of cs) x
  unfolding answers
  seen [] x = refl
  seen (c ∷ cs) x = ap (λ (l : List Answer). (packed_queue H levels (at_of c) x).said ∷ l) (seen cs (packed_queue H levels (at_of c) x).next)

  seen-left : (cs : List HeapAsk) (x : List ℕ) → leaves (λ c. packed_queue H levels (at_of c)) cs x ≡ leaves (packed_queue H levels) (map at_of cs) x
  unfolding leaves
  seen-left [] x = refl
  seen-left (c ∷ cs) x = seen-left cs (packed_queue H levels (at_of c) x).next

  module _ (cs : List HeapAsk) (ws : List ℕ) where
    pub packed-heard : heard_c H levels out cs ws ≡ said H levels (map at_of cs) ws
    packed-heard =
        heard-same heap_hears (packed_c H levels out) (λ c. packed_queue H levels (at_of c)) (λ (x y : List ℕ). x ≡ y) same keep cs (packed_clear H levels ws).store (packed_clear H levels ws).store refl
        ∙ seen cs (packed_clear H levels ws).store

    pub packed-left : left_c H levels out cs ws ≡ after H levels (map at_of cs) ws
    packed-left =
        heard-in-step heap_hears (packed_c H levels out) (λ c. packed_queue H levels (at_of c)) (λ (x y : List ℕ). x ≡ y) same keep cs (packed_clear H levels ws).store (packed_clear H levels ws).store refl
        ∙ seen-left cs (packed_clear H levels ws).store

    -- HEARD, at each heap
    pub packed-promised : Shape H levels (length ws) → (h : ℕ) → h < H → HeardAt H levels out cs ws h
    packed-promised sh h l =
        record {
          holds =
              subst (λ (v : List ℕ). Holds (stored H levels h v) (map (seen_by h) (map at_of cs)) (heard_c H levels out cs ws)) (sym packed-left)
              (subst (λ (a : List Answer). Holds (stored H levels h (after H levels (map at_of cs) ws)) (map (seen_by h) (map at_of cs)) a) (sym packed-heard) (promises.holds H ws (map at_of cs) levels sh h l));
          least = λ c.
              subst (λ (v : List ℕ). Least (stored H levels h v) (wanted c) (heard (wanted c) (heap_by H levels out h c v).said)) (sym packed-left)
              (subst (Least (stored H levels h (after H levels (map at_of cs) ws)) (wanted c)) (sym (said-is h c (after H levels (map at_of cs) ws))) (promises.least H ws (map at_of cs) levels sh h l (wanted c)));
        }
