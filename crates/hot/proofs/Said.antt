-- What `properties::Basic` promises of region 5 in its own words is what specs/Region5 says by name. Assumes nothing.
use Rattle.std.specs.Prelude.{◌≡◌, refl, Float}
use Rattle.properties.specs.Properties.{rooted_of}
use Rattle.vapour.specs.declared.Vapour.{Vapour}
use Rattle.hot.specs.Region5.{gamma5, unrooted_of5, state_of5, state5, h5, s5}

pub state_of_5_said : (p t : Float) (γ : Vapour) → rooted_of (unrooted_of5 p t γ) ≡ state_of5 p t γ
unfolding state_of5
state_of_5_said p t γ = refl

pub state_5_said : (p t : Float) → rooted_of (unrooted_of5 p t (gamma5 p t)) ≡ state5 p t
unfolding state5 state_of5
state_5_said p t = refl

pub h_5_said : (p t : Float) → (unrooted_of5 p t (gamma5 p t)).h ≡ h5 p t
unfolding state5 state_of5 rooted_of
h_5_said p t = refl

pub s_5_said : (p t : Float) → (unrooted_of5 p t (gamma5 p t)).s ≡ s5 p t
unfolding state5 state_of5 rooted_of
s_5_said p t = refl
