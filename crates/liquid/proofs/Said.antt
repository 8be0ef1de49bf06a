-- What `properties::Basic` promises of region 1 in its own words is what specs/Region1 says by name. Assumes nothing.
use Rattle.std.specs.Prelude.{◌≡◌, refl, Float}
use Rattle.properties.specs.Properties.{rooted_of}
use Rattle.liquid.specs.declared.Liquid.{Liquid}
use Rattle.liquid.specs.Region1.{gamma1, unrooted_of1, state_of1, state1, h1, s1}

pub state_of_1_said : (p t : Float) (γ : Liquid) → rooted_of (unrooted_of1 p t γ) ≡ state_of1 p t γ
unfolding state_of1
state_of_1_said p t γ = refl

pub state_1_said : (p t : Float) → rooted_of (unrooted_of1 p t (gamma1 p t)) ≡ state1 p t
unfolding state1 state_of1
state_1_said p t = refl

pub h_1_said : (p t : Float) → (unrooted_of1 p t (gamma1 p t)).h ≡ h1 p t
unfolding state1 state_of1 rooted_of
h_1_said p t = refl

pub s_1_said : (p t : Float) → (unrooted_of1 p t (gamma1 p t)).s ≡ s1 p t
unfolding state1 state_of1 rooted_of
s_1_said p t = refl
