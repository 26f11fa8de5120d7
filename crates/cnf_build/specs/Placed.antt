-- Where the blocks of variables begin.
use Rattle.std.specs.Prelude.{◌≡◌, ℕ, ◌^◌, ◌<◌, ◌≤◌}
use Rattle.cpog_base.specs.declared.limits.TheConstants.{BIT_LIMIT, SCENARIO_LIMIT}
use Rattle.cnf_build.specs.declared.size.TheConstants.{GATE_LIMIT}
use Rattle.gate_template.specs.declared.types.Shape.{Shape}
use Rattle.gate_template.specs.Counts.{before_d, before_sel, before_t, before_v, before_o, before_p, variable_count}

-- a template that is small enough for its variables to be numbered
pub record IsShape (z : Shape) : Type 0 where
  pub some_bits : 2 ≤ z.bits
  pub few_bits : z.bits ≤ BIT_LIMIT
  pub few_scenarios : z.scenarios ≤ SCENARIO_LIMIT
  pub few_gates : z.gates ≤ GATE_LIMIT
  pub few_variables : variable_count z < 2 ^ 31

-- how many variables stand before each block but the first
pub record ArePlaced (z : Shape) (d sel t v o p : ℕ) : Type 0 where
  pub shape : IsShape z
  pub d_is : d ≡ before_d z
  pub sel_is : sel ≡ before_sel z
  pub t_is : t ≡ before_t z
  pub v_is : v ≡ before_v z
  pub o_is : o ≡ before_o z
  pub p_is : p ≡ before_p z
