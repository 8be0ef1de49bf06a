-- The definitions give the numbers that the papers print to check a program by: one point of each of Tables A3, A6, A10 and A12 of 002 and of Table 42 of R7-97, the
-- pressure P = ps(623.15) at which regions 1, 2 and 3 meet, and where the saturation pressure stands. The f64 beside each property agrees with the printed value in
-- all its nine digits. Shown by computing. Assumes nothing.
use mathlib.Core.Path.{◌≡◌, refl}
use mathlib.Core.Bool.{false}
use lib.Ieee.{binary64, round, add, sub, mul, div, neg, lt, eq, le, of_int, of_bits}
use Rattle.std.specs.Prelude.{Some, None}
use Rattle.arith.specs.F64.{f64}
use Rattle.arith.specs.Printed.{printed, less}
use Rattle.arith.specs.Power.{raised, power_of}
use Rattle.elementary.specs.Root.{root_of, root_units, near_root, floor_root, fourth_root_of}
use Rattle.elementary.specs.Log.{log_of, log_units, parts_of, parts_at, log_sum, series, ln2}
use Rattle.terms.specs.Sum.{sum_of, sum_from, plus, term, gone, scaled}
use Rattle.terms.specs.Six.{six_of}
use Rattle.properties.specs.Properties.{unrooted_of, rooted_of}
use Rattle.liquid.specs.Region1.{table1, point1, sum1, gamma1, unrooted_of1, state_of1, state1}
use Rattle.vapour.specs.Vapour.{vapour_of, vapour_unrooted}
use Rattle.steam.specs.Region2.{ideal2, residual2, point2, gamma2, unrooted_of2, state_of2, state2}
use Rattle.hot.specs.Region5.{ideal5, residual5, point5, gamma5, unrooted_of5, state_of5, state5}
use Rattle.dense.specs.Region3.{table3, point3, phi_of3, phi3, pressure_of3, pressure3, unrooted_at3, unrooted_of3, state_of3, state3}
use Rattle.saturation_line.specs.Printed.{equation28, ts_of}
use Rattle.saturation_line.specs.Pressure.{ps_of}
use Rattle.saturation_line.specs.declared.SaturationPressure.TheVariants.{UpTo623, Above623}

-- Table A3: p = 3 MPa, T = 300 K
pub region_1 : state1 (f64 3) (f64 300) ≡ record {
  v = of_bits binary64 0x3f50_6b54_2c27_16da;
  u = of_bits binary64 0x405c_14c9_d15c_dded;
  h = of_bits binary64 0x405c_d533_93c2_4800;
  s = of_bits binary64 0x3fd9_1b5b_9df0_aa12;
  cp = of_bits binary64 0x4010_b12a_1b21_85cd;
  w = of_bits binary64 0x4097_8ef4_f361_2581;
}
unfolding state1 state_of1 rooted_of unrooted_of1 gamma1 sum1 point1 table1 unrooted_of sum_of sum_from plus term gone scaled power_of raised add sub mul div neg round of_int of_bits printed root_of root_units near_root floor_root
region_1 = refl

-- Table A6: p = 30 MPa, T = 700 K
pub region_2 : state2 (f64 30) (f64 700) ≡ record {
  v = of_bits binary64 0x3f76_3d35_3bd9_951b;
  u = of_bits binary64 0x40a3_4938_b567_8b62;
  h = of_bits binary64 0x40a4_8efd_4f32_40a1;
  s = of_bits binary64 0x4014_b39c_d6e2_61a9;
  cp = of_bits binary64 0x4024_b375_f164_9a48;
  w = of_bits binary64 0x407e_062f_32eb_527b;
}
unfolding state2 state_of2 rooted_of unrooted_of2 gamma2 point2 ideal2 residual2 vapour_unrooted vapour_of unrooted_of six_of sum_of sum_from plus term gone scaled power_of raised log_of log_units parts_of parts_at log_sum series ln2 add sub mul div neg round of_int of_bits printed root_of root_units near_root floor_root
region_2 = refl

-- Table A10: density 500 kg/m³, T = 650 K
pub region_3 : state3 (f64 500) (f64 650) ≡ record {
  v = of_bits binary64 0x3f60_624d_d2f1_a9fc;
  u = of_bits binary64 0x409c_510d_17d3_1d08;
  h = of_bits binary64 0x409d_1db8_83af_065a;
  s = of_bits binary64 0x4010_3793_457b_0758;
  cp = of_bits binary64 0x402b_c982_3c53_b763;
  w = of_bits binary64 0x407f_6016_bf89_86b1;
}
unfolding state3 state_of3 rooted_of unrooted_of3 unrooted_at3 phi3 phi_of3 point3 table3 six_of sum_of sum_from plus term gone scaled power_of raised log_of log_units parts_of parts_at log_sum series ln2 add sub mul div neg round of_int of_bits printed root_of root_units near_root floor_root
region_3 = refl

-- and the pressure there, in MPa
pub pressure_3 : pressure3 (f64 500) (f64 650) ≡ of_bits binary64 0x4039_956d_7b7d_2a70
unfolding pressure_of3 phi3 phi_of3 point3 table3 six_of sum_of sum_from plus term gone scaled power_of raised add sub mul div neg round of_int of_bits printed
pressure_3 = refl

-- R7-97, Table 42: p = 30 MPa, T = 2000 K
pub region_5 : state5 (f64 30) (f64 2000) ≡ record {
  v = of_bits binary64 0x3f9f_e2c6_d44e_c9c4;
  u = of_bits binary64 0x40b6_0512_0496_c5c0;
  h = of_bits binary64 0x40b9_ab39_ddaa_b9ff;
  s = of_bits binary64 0x4021_12a3_b4da_4856;
  cp = of_bits binary64 0x4007_15e9_4326_27da;
  w = of_bits binary64 0x4090_ad7a_58a5_066c;
}
unfolding state5 state_of5 rooted_of unrooted_of5 gamma5 point5 ideal5 residual5 vapour_unrooted vapour_of unrooted_of six_of sum_of sum_from plus term gone scaled power_of raised log_of log_units parts_of parts_at log_sum series ln2 add sub mul div neg round of_int of_bits printed root_of root_units near_root floor_root
region_5 = refl

-- Table A12: the saturation pressure at 300 K, in MPa
pub saturation_pressure_a12 : ps_of (f64 300) ≡ Some (UpTo623 (of_bits binary64 0x3f6c_f8c3_fbc8_dfab))
unfolding ps_of equation28 add sub mul div neg lt eq le round of_int of_bits printed root_of root_units near_root floor_root
saturation_pressure_a12 = refl

-- P, the pressure at 623.15 K
pub saturation_pressure : ps_of (printed false 62315 (less 2)) ≡ Some (UpTo623 (of_bits binary64 0x4030_8777_4ef7_2605))
unfolding ps_of equation28 add sub mul div neg lt eq le round of_int of_bits printed root_of root_units near_root floor_root
saturation_pressure = refl

-- one f64 above 623.15 K it is of the other case
pub saturation_pressure_above : ps_of (of_bits binary64 0x4083_7933_3333_3334) ≡ Some (Above623 (of_bits binary64 0x4030_8777_4ef7_2626))
unfolding ps_of equation28 add sub mul div neg lt eq le round of_int of_bits printed root_of root_units near_root floor_root
saturation_pressure_above = refl

-- and so at the critical temperature: 22.0640000003 MPa, where 002 has 22.064 for the critical pressure
pub saturation_pressure_critical : ps_of (printed false 647096 (less 3)) ≡ Some (Above623 (of_bits binary64 0x4036_1062_4dd4_5231))
unfolding ps_of equation28 add sub mul div neg lt eq le round of_int of_bits printed root_of root_units near_root floor_root
saturation_pressure_critical = refl

-- the line's lower end, 273.15 K
pub saturation_pressure_at_273 : ps_of (of_bits binary64 0x4071_1266_6666_6666) ≡ Some (UpTo623 (of_bits binary64 0x3f44_0739_3af2_73cc))
unfolding ps_of equation28 add sub mul div neg lt eq le round of_int of_bits printed root_of root_units near_root floor_root
saturation_pressure_at_273 = refl

-- one f64 outside its ends there is none
pub no_saturation_pressure_below : ps_of (of_bits binary64 0x4071_1266_6666_6665) ≡ None
unfolding ps_of lt eq le round of_int of_bits printed
no_saturation_pressure_below = refl

pub no_saturation_pressure_above : ps_of (of_bits binary64 0x4084_38c4_9ba5_e355) ≡ None
unfolding ps_of lt eq le round of_int of_bits printed
no_saturation_pressure_above = refl

-- and none at 700 K
pub no_saturation_pressure_at_700 : ps_of (f64 700) ≡ None
unfolding ps_of lt eq le round of_int of_bits printed
no_saturation_pressure_at_700 = refl

-- the temperature that P gives back, 623.1500000000016 K: not 623.15
pub saturation_temperature : ts_of (of_bits binary64 0x4030_8777_4ef7_2605) ≡ of_bits binary64 0x4083_7933_3333_3341
unfolding ts_of fourth_root_of add sub mul div neg round of_int of_bits printed root_of root_units near_root floor_root
saturation_temperature = refl
