-- A cycle of the pipeline is a call of the list, whose answer leaves when it has come through all stages.
use Rattle.laws.specs.Prelude.{Element, List, Request, [], ◌++◌, ◌-◌, ◌<◌, ◌∙◌, ◌∷◌, ◌≡◌, ap, arith, not-suc-le-zero, refl, subst, suc, sym, zero, ℕ}
use mathlib.Core.Path.{fun_ext}
use Rattle.bucket_model.specs.Prelude.{Sorted, of_rank}
use Rattle.std.specs.Prelude.{Option}
use Rattle.bucket_clock_model.specs.Lists.{arrives, done, moved, taken, takes}
use Rattle.bucket_clock_model.specs.Pipe.{after, below, buckets_of, counts_at, Fit, Pipe, piped, Shows}
use Rattle.bucket_clock_model.proofs.Storey.{counts-follow, fit-below}
use Rattle.bucket_clock_model.proofs.Buckets.{buckets-follow, head-is}

-- a way that is one longer
pub arrives-end : (v : List (Option Element)) (a z : Option Element) → arrives (v ++ a ∷ []) z ≡ arrives v a
arrives-end [] a z = refl
arrives-end (y ∷ v) a z = refl

pub moved-end : (v : List (Option Element)) (a z : Option Element) → moved (v ++ a ∷ []) z ≡ moved v a ++ z ∷ []
moved-end [] a z = refl
moved-end (y ∷ v) a z = refl

-- the same lists
now : (l : List Element) (ago : ℕ → List Element) → ago 0 ≡ l → after l (λ i. ago (suc i)) ≡ ago
now l ago e = fun_ext at
  where
    at : (i : ℕ) → after l (λ i. ago (suc i)) i ≡ ago i
    at zero = sym e
    at (suc i) = refl

-- what leaves, and what the pipeline then stands for
pub record Followed (d : ℕ) (q : Request) (w : ℕ) (s : Pipe d) (ago : ℕ → List Element) (v : List (Option Element)) : Type 0 where
  pub leaves : (piped d q w s).said ≡ arrives v (taken (takes q) (ago 0))
  pub shows : Shows d (piped d q w s).next (after (done q (ago 0)) ago) (moved v (taken (takes q) (ago 0)))

-- FOLLOWS, for any number of storeys
pub follows : (d : ℕ) (q : Request) (w : ℕ) (s : Pipe d) (ago : ℕ → List Element) (v : List (Option Element)) → Sorted (ago 0) → Fit d (takes q) w (ago 0) → Shows d s ago v → Followed d q w s ago v
unfolding piped
follows zero q w b ago v o f h =
    record {
      leaves = head-is b w (takes q) (ago 0) h.0 f ∙ sym (ap (λ (v : List (Option Element)). arrives v (taken (takes q) (ago 0))) h.1);
      shows = (buckets-follow w q b (ago 0) o h.0 f, ap (λ (v : List (Option Element)). moved v (taken (takes q) (ago 0))) h.1);
    }
follows (suc d) q w s ago v o f h = join (follows d s.0.does s.0.way s.1 (λ i. ago (suc i)) h.older h.sorted h.fit h.rest)
  where
    a : Option Element
    a = taken (takes s.0.does) (ago 1)

    join : Followed d s.0.does s.0.way s.1 (λ i. ago (suc i)) h.older → Followed (suc d) q w s ago v
    join r =
        record {
          leaves = r.leaves ∙ sym (arrives-end h.older a (taken (takes q) (ago 0))) ∙ sym (ap (λ (v : List (Option Element)). arrives v (taken (takes q) (ago 0))) h.way);
          shows = record {
            counts = counts-follow d w q s.0.counts (ago 0) o h.counts f;
            older = moved h.older a;
            sorted = o;
            fit = fit-below d w (takes q) s.0.counts (ago 0) o h.counts f;
            is = refl;
            way = ap (λ (v : List (Option Element)). moved v (taken (takes q) (ago 0))) h.way ∙ moved-end h.older a (taken (takes q) (ago 0));
            rest = subst (λ (p : ℕ → List Element). Shows d (piped d s.0.does s.0.way s.1).next p (moved h.older a)) (now (done s.0.does (ago 1)) ago h.is) r.shows;
          };
        }

-- ---- stage i + 1 has the counts of the list of i cycles ago, and the buckets that of as many as there are storeys

pub counts-at : (d : ℕ) (s : Pipe d) (ago : ℕ → List Element) (v : List (Option Element)) → Shows d s ago v → (i j : ℕ) → i < d → counts_at d s i j ≡ below (d - suc i) (ago i) j
counts-at zero s ago v h i j l = absurd (not-suc-le-zero l)
counts-at (suc d) s ago v h zero j l = let e : suc d - 1 ≡ d = omega arith in rw e (h.counts j)
counts-at (suc d) s ago v h (suc i) j l = let e : suc d - suc (suc i) ≡ d - suc i = omega arith in rw e (counts-at d s.1 (λ i. ago (suc i)) h.older h.rest i j (omega arith))

pub buckets-at : (d : ℕ) (s : Pipe d) (ago : ℕ → List Element) (v : List (Option Element)) → Shows d s ago v → (r : ℕ) → buckets_of d s r ≡ of_rank r (ago d)
buckets-at zero s ago v h r = h.0 r
buckets-at (suc d) s ago v h r = buckets-at d s.1 (λ i. ago (suc i)) h.older h.rest r
