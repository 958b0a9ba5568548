-- A header read as a shape: the number it had is that version's, order and levels stood there.
use Rattle.laws.specs.Prelude.{Bool, ap, arith, cond, eqb, eqb-true, false, refl, true, ◌≡◌, ℕ}
use Rattle.trace_model.specs.Bytes.{version_number}
use Rattle.trace_model.specs.Format.{headed}
use Rattle.std.specs.Prelude.{None, Some}
use Rattle.trace_model.specs.declared.Header.{Header}
use Rattle.trace_model.specs.Format.{header}
use Rattle.trace_model.specs.declared.Version.{Version}
use Rattle.trace_model.specs.declared.Version.TheVariants.{One, Two}

fields : (v w : Version) (a b m levels : ℕ) → Some (header v a b) ≡ Some (header w m levels) → (v ≡ w) × (a ≡ m) × (b ≡ levels)
fields v w a b m levels p =
    let q : header v a b ≡ header w m levels = cc in
    (ap (λ (h : Header). h.version) q, ap (λ (h : Header). h.order) q, ap (λ (h : Header). h.levels) q)

pub version-read : (n a b : ℕ) (v : Version) (m levels : ℕ) → headed n a b ≡ Some (header v m levels) → (a ≡ m) × (b ≡ levels) × (n ≡ version_number v)
unfolding headed
version-read n a b v m levels e = go (eqb n 1) refl (eqb n 2) refl v e
  where
    go : (s : Bool) → eqb n 1 ≡ s → (t : Bool) → eqb n 2 ≡ t → (v : Version) → cond s (Some (header One a b)) (cond t (Some (header Two a b)) None) ≡ Some (header v m levels)
        → (a ≡ m) × (b ≡ levels) × (n ≡ version_number v)
    go true one t two One p = let f = fields One One a b m levels p in (f.1, f.2, eqb-true n 1 one)
    go true one t two Two p = let f : One ≡ Two = (fields One Two a b m levels p).0 in let z : ◌≡◌ {A = ℕ} 0 1 = cc in absurd (omega arith)
    go false one true two One p = let f : Two ≡ One = (fields Two One a b m levels p).0 in let z : ◌≡◌ {A = ℕ} 0 1 = cc in absurd (omega arith)
    go false one true two Two p = let f = fields Two Two a b m levels p in (f.1, f.2, eqb-true n 2 two)
    go false one false two v p = let z : ◌≡◌ {A = ℕ} 0 1 = cc in absurd (omega arith)
