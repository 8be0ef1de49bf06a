-- What `properties::Basic` promises of region 2 in its own words is what specs/Region2 says by name. Assumes nothing.
use Rattle.std.specs.Prelude.{◌≡◌, refl, Float}
use Rattle.properties.specs.Properties.{rooted_of}
use Rattle.vapour.specs.declared.Vapour.{Vapour}
use Rattle.steam.specs.Region2.{gamma2, unrooted_of2, state_of2, state2, h2, s2}

pub state_of_2_said : (p t : Float) (γ : Vapour) → rooted_of (unrooted_of2 p t γ) ≡ state_of2 p t γ
unfolding state_of2
state_of_2_said p t γ = refl

pub state_2_said : (p t : Float) → rooted_of (unrooted_of2 p t (gamma2 p t)) ≡ state2 p t
unfolding state2 state_of2
state_2_said p t = refl

pub h_2_said : (p t : Float) → (unrooted_of2 p t (gamma2 p t)).h ≡ h2 p t
unfolding state2 state_of2 rooted_of
h_2_said p t = refl

pub s_2_said : (p t : Float) → (unrooted_of2 p t (gamma2 p t)).s ≡ s2 p t
unfolding state2 state_of2 rooted_of
s_2_said p t = refl
