-- What regions 2 and 5 share: 002, Eqs. (19) and (29), Tables 4 to 6, 11 and 12. γ is the sum of an ideal-gas part and a residual part. The thermal
-- expansion and the compressibility are those of 001. Definitions only.
use Rattle.std.specs.Prelude.{List, Float}
use Rattle.arith.specs.F64.{f64, ◌⊕◌, ◌⊖◌, ◌⊗◌, ◌⊘◌}
use Rattle.elementary.specs.Log.{log_of}
use Rattle.terms.specs.Sum.{Term}
use Rattle.terms.specs.Six.{six_of}
use Rattle.terms.specs.declared.Six.{Six}
use Rattle.properties.specs.Properties.{unrooted_of}
use Rattle.properties.specs.declared.Unrooted.{Unrooted}
use Rattle.properties.specs.declared.Response.{Response}
use Rattle.properties.specs.declared.Point.{Point}
use Rattle.vapour.specs.declared.Vapour.{Vapour}

-- γ = γ° + γʳ, where γ° is ln π and the sum of its table
abbrev pub gibbs_of : Float → Float → Float → Float
gibbs_of π ideal residual = log_of π ⊕ ideal ⊕ residual

-- The two parts added, from the sums of each. γ°π is 1/π.
unfoldable pub vapour_of : Float → Six → Six → Vapour
vapour_of π ideal residual = record {
  g = gibbs_of π ideal.f residual.f;
  gp = f64 1 ⊘ π ⊕ residual.fa;
  gt = ideal.fb ⊕ residual.fb;
  gtt = ideal.fbb ⊕ residual.fbb;
  rp = residual.fa;
  rpp = residual.faa;
  rpt = residual.fab;
}

-- γ at a point, from a region's two tables: the ideal-gas part is summed at π and τ, the residual part at π and its own shift of τ.
abbrev pub vapour_at : (ideal residual : List Term) → (Float → Float) → Point → Vapour
vapour_at ideal residual shifted x = vapour_of x.pi (six_of ideal x.pi x.tau) (six_of residual x.pi (shifted x.tau))

-- Table 4. w²/RT = (1 + 2·π·γʳπ + π²·γʳπ²) / ((1 - π²·γʳππ) + (1 + π·γʳπ - τ·π·γʳπτ)² / (τ²·γττ))
unfoldable pub vapour_unrooted : Point → Vapour → Unrooted
vapour_unrooted x γ =
    let π = x.pi in
    let τ = x.tau in
    let d = f64 1 ⊕ π ⊗ γ.rp ⊖ τ ⊗ π ⊗ γ.rpt in
    unrooted_of x γ.g γ.gp γ.gt γ.gtt
    ((f64 1 ⊕ f64 2 ⊗ π ⊗ γ.rp ⊕ π ⊗ π ⊗ (γ.rp ⊗ γ.rp)) ⊘ (f64 1 ⊖ π ⊗ π ⊗ γ.rpp ⊕ d ⊗ d ⊘ (τ ⊗ τ ⊗ γ.gtt)))

-- 001: α = (1/T)·((1 + π·γʳπ - τ·π·γʳπτ)/(1 + π·γʳπ)) and κ = (1/P)·((1 - π²·γʳππ)/(1 + π·γʳπ)), with P = 1000·p in kPa
unfoldable pub vapour_response : Point → Vapour → Response
vapour_response x γ =
    let π = x.pi in
    let τ = x.tau in
    let e = f64 1 ⊕ π ⊗ γ.rp in
    record {
      alpha = f64 1 ⊘ x.t ⊗ ((e ⊖ τ ⊗ π ⊗ γ.rpt) ⊘ e);
      kappa = f64 1 ⊘ (f64 1000 ⊗ x.p) ⊗ ((f64 1 ⊖ π ⊗ π ⊗ γ.rpp) ⊘ e);
    }
