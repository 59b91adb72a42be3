-- SubBytes and InvSubBytes as circuits on bits (src/circuit.rt says whose): what each stage there makes of its inputs.
use Rattle.std.specs.Prelude.{ℕ, ◌+◌, ◌*◌, ◌%◌, List, [], ◌∷◌, map, get_or, slice_index, replicate, bit_xor, bit_and}
use lib.Lanes.{zip2}

infixl 50 ◌⊕◌
infixl 60 ◌⊗◌
-- an input, a bit that is 1, or a gate on two wires
pub data Wire : Type 0 where
  input : ℕ → Wire
  ones : Wire
  ◌⊕◌ : Wire → Wire → Wire
  ◌⊗◌ : Wire → Wire → Wire

-- what a wire carries where the inputs are planes
abbrev pub plane_of : List (List ℕ) → Wire → List ℕ
plane_of planes (input i) = get_or planes i []
plane_of planes ones = replicate 16 0xFF
plane_of planes (v ⊕ w) = zip2 bit_xor (plane_of planes v) (plane_of planes w)
plane_of planes (v ⊗ w) = zip2 bit_and (plane_of planes v) (plane_of planes w)

-- and where they are bits
abbrev pub bit_of : List ℕ → Wire → ℕ
bit_of bits (input i) = slice_index bits i
bit_of bits ones = 1
bit_of bits (v ⊕ w) = (bit_of bits v + bit_of bits w) % 2
bit_of bits (v ⊗ w) = bit_of bits v * bit_of bits w

-- what a list of wires carries
abbrev pub planes_of : List Wire → List (List ℕ) → List (List ℕ)
planes_of wires planes = map (plane_of planes) wires

abbrev pub bits_of : List Wire → List ℕ → List ℕ
bits_of wires bits = map (bit_of bits) wires

-- ---- the stages of SubBytes, with the names that its code has

-- the inputs of `TO_INVERT` and `PRODUCTS`, where u7 is y 0, and those of `SUMS_OUT`
abbrev y : ℕ → Wire
y i = input i

abbrev z : ℕ → Wire
z i = input i

-- the lowest bit and y1 to y21, of the eight bits, the lowest first
unfoldable pub SUMS_IN : List Wire
SUMS_IN =
    let u7 = input 0 in
    let u6 = input 1 in
    let u5 = input 2 in
    let u4 = input 3 in
    let u3 = input 4 in
    let u2 = input 5 in
    let u1 = input 6 in
    let u0 = input 7 in
    let y14 = u3 ⊕ u5 in
    let y13 = u0 ⊕ u6 in
    let y9 = u0 ⊕ u3 in
    let y8 = u0 ⊕ u5 in
    let t0 = u1 ⊕ u2 in
    let y1 = t0 ⊕ u7 in
    let y4 = y1 ⊕ u3 in
    let y12 = y13 ⊕ y14 in
    let y2 = y1 ⊕ u0 in
    let y5 = y1 ⊕ u6 in
    let y3 = y5 ⊕ y8 in
    let t1 = u4 ⊕ y12 in
    let y15 = t1 ⊕ u5 in
    let y20 = t1 ⊕ u1 in
    let y6 = y15 ⊕ u7 in
    let y10 = y15 ⊕ t0 in
    let y11 = y20 ⊕ y9 in
    let y7 = u7 ⊕ y11 in
    let y17 = y10 ⊕ y11 in
    let y19 = y10 ⊕ y8 in
    let y16 = t0 ⊕ y11 in
    let y21 = y13 ⊕ y16 in
    let y18 = u0 ⊕ y16 in
    u7 ∷ y1 ∷ y2 ∷ y3 ∷ y4 ∷ y5 ∷ y6 ∷ y7 ∷ y8 ∷ y9 ∷ y10 ∷ y11 ∷ y12 ∷ y13 ∷ y14 ∷ y15 ∷ y16 ∷ y17 ∷ y18 ∷ y19 ∷ y20 ∷ y21 ∷ []

-- t21 to t24, of those
unfoldable pub TO_INVERT : List Wire
TO_INVERT =
    let u7 = y 0 in
    let t2 = y 12 ⊗ y 15 in
    let t4 = (y 3 ⊗ y 6) ⊕ t2 in
    let t6 = (y 4 ⊗ u7) ⊕ t2 in
    let t7 = y 13 ⊗ y 16 in
    let t9 = (y 5 ⊗ y 1) ⊕ t7 in
    let t11 = (y 2 ⊗ y 7) ⊕ t7 in
    let t12 = y 9 ⊗ y 11 in
    let t14 = (y 14 ⊗ y 17) ⊕ t12 in
    let t16 = (y 8 ⊗ y 10) ⊕ t12 in
    (t4 ⊕ t14 ⊕ y 20) ∷ (t6 ⊕ t16 ⊕ y 19) ∷ (t9 ⊕ t14 ⊕ y 21) ∷ (t11 ⊕ t16 ⊕ y 18) ∷ []

-- t29, t33, t37, t40 to t45, of those
unfoldable pub INVERTED : List Wire
INVERTED =
    let t21 = input 0 in
    let t22 = input 1 in
    let t23 = input 2 in
    let t24 = input 3 in
    let t25 = t21 ⊕ t22 in
    let t26 = t21 ⊗ t23 in
    let t27 = t24 ⊕ t26 in
    let t28 = t25 ⊗ t27 in
    let t29 = t28 ⊕ t22 in
    let t30 = t23 ⊕ t24 in
    let t31 = t22 ⊕ t26 in
    let t32 = t31 ⊗ t30 in
    let t33 = t32 ⊕ t24 in
    let t34 = t23 ⊕ t33 in
    let t35 = t27 ⊕ t33 in
    let t36 = t24 ⊗ t35 in
    let t37 = t36 ⊕ t34 in
    let t38 = t27 ⊕ t36 in
    let t39 = t29 ⊗ t38 in
    let t40 = t25 ⊕ t39 in
    let t41 = t40 ⊕ t37 in
    let t42 = t29 ⊕ t33 in
    let t43 = t29 ⊕ t40 in
    let t44 = t33 ⊕ t37 in
    let t45 = t42 ⊕ t41 in
    t29 ∷ t33 ∷ t37 ∷ t40 ∷ t41 ∷ t42 ∷ t43 ∷ t44 ∷ t45 ∷ []

-- z0 to z17, of what `SUMS_IN` gives and then what `INVERTED` gives
unfoldable pub PRODUCTS : List Wire
PRODUCTS =
    let u7 = y 0 in
    let t29 = input 22 in
    let t33 = input 23 in
    let t37 = input 24 in
    let t40 = input 25 in
    let t41 = input 26 in
    let t42 = input 27 in
    let t43 = input 28 in
    let t44 = input 29 in
    let t45 = input 30 in
    (t44 ⊗ y 15) ∷ (t37 ⊗ y 6) ∷ (t33 ⊗ u7) ∷ (t43 ⊗ y 16) ∷ (t40 ⊗ y 1) ∷ (t29 ⊗ y 7) ∷ (t42 ⊗ y 11) ∷ (t45 ⊗ y 17) ∷ (t41 ⊗ y 10) ∷ (t44 ⊗ y 12) ∷ (t37 ⊗ y 3) ∷ (t33 ⊗ y 4) ∷ (t43 ⊗ y 13) ∷ (t40 ⊗ y 5) ∷ (t29 ⊗ y 2) ∷ (t42 ⊗ y 9) ∷ (t45 ⊗ y 14) ∷ (t41 ⊗ y 8) ∷ []

-- s7 to s0, of those: the eight bits, the lowest first
unfoldable pub SUMS_OUT : List Wire
SUMS_OUT =
    let t46 = z 15 ⊕ z 16 in
    let t47 = z 10 ⊕ z 11 in
    let t48 = z 5 ⊕ z 13 in
    let t49 = z 9 ⊕ z 10 in
    let t50 = z 2 ⊕ z 12 in
    let t51 = z 2 ⊕ z 5 in
    let t52 = z 7 ⊕ z 8 in
    let t53 = z 0 ⊕ z 3 in
    let t54 = z 6 ⊕ z 7 in
    let t55 = z 16 ⊕ z 17 in
    let t56 = z 12 ⊕ t48 in
    let t57 = t50 ⊕ t53 in
    let t58 = z 4 ⊕ t46 in
    let t59 = z 3 ⊕ t54 in
    let t60 = t46 ⊕ t57 in
    let t61 = z 14 ⊕ t57 in
    let t62 = t52 ⊕ t58 in
    let t63 = t49 ⊕ t58 in
    let t64 = z 4 ⊕ t59 in
    let t65 = t61 ⊕ t62 in
    let t66 = z 1 ⊕ t63 in
    let t67 = t64 ⊕ t65 in
    let s3 = t53 ⊕ t66 in
    (t48 ⊕ t60 ⊕ ones) ∷ (t56 ⊕ t62 ⊕ ones) ∷ (t47 ⊕ t65) ∷ (t51 ⊕ t66) ∷ s3 ∷ (t55 ⊕ t67 ⊕ ones) ∷ (t64 ⊕ s3 ⊕ ones) ∷ (t59 ⊕ t63) ∷ []

-- ---- the stages of InvSubBytes, with the names that its code has (src/inv_circuit.rt); `INVERTED` is one of them

-- the inputs of `INV_TO_INVERT` and `INV_PRODUCTS`, and those of `INV_SUMS_OUT`
abbrev t : ℕ → Wire
t i = input i

abbrev m : ℕ → Wire
m i = input i

-- t1 to t27 in their places, and y5 in the others, of the eight bits, the lowest first
unfoldable pub INV_SUMS_IN : List Wire
INV_SUMS_IN =
    let u7 = input 0 in
    let u6 = input 1 in
    let u5 = input 2 in
    let u4 = input 3 in
    let u3 = input 4 in
    let u2 = input 5 in
    let u1 = input 6 in
    let u0 = input 7 in
    let t23 = u0 ⊕ u3 in
    let t22 = u1 ⊕ u3 ⊕ ones in
    let t2 = u0 ⊕ u1 ⊕ ones in
    let t1 = u3 ⊕ u4 in
    let t24 = u4 ⊕ u7 ⊕ ones in
    let r5 = u6 ⊕ u7 in
    let t8 = u1 ⊕ t23 ⊕ ones in
    let t19 = t22 ⊕ r5 in
    let t9 = u7 ⊕ t1 ⊕ ones in
    let t10 = t2 ⊕ t24 in
    let t13 = t2 ⊕ r5 in
    let t3 = t1 ⊕ r5 in
    let t25 = u2 ⊕ t1 ⊕ ones in
    let r13 = u1 ⊕ u6 in
    let t17 = u2 ⊕ t19 ⊕ ones in
    let t20 = t24 ⊕ r13 in
    let t4 = u4 ⊕ t8 in
    let r17 = u2 ⊕ u5 ⊕ ones in
    let r18 = u5 ⊕ u6 ⊕ ones in
    let r19 = u2 ⊕ u4 ⊕ ones in
    let y5 = u0 ⊕ r17 in
    let t6 = t22 ⊕ r17 in
    let t16 = r13 ⊕ r19 in
    let t27 = t1 ⊕ r18 in
    let t15 = t10 ⊕ t27 in
    let t14 = t10 ⊕ r18 in
    let t26 = t3 ⊕ t16 in
    y5 ∷ t1 ∷ t2 ∷ t3 ∷ t4 ∷ y5 ∷ t6 ∷ y5 ∷ t8 ∷ t9 ∷ t10 ∷ y5 ∷ y5 ∷ t13 ∷ t14 ∷ t15 ∷ t16 ∷ t17 ∷ y5 ∷ t19 ∷ t20 ∷ y5 ∷ t22 ∷ t23 ∷ t24 ∷ t25 ∷ t26 ∷ t27 ∷ []

-- m20 to m23, of those
unfoldable pub INV_TO_INVERT : List Wire
INV_TO_INVERT =
    let m1 = t 13 ⊗ t 6 in
    let m2 = t 23 ⊗ t 8 in
    let m3 = t 14 ⊕ m1 in
    let m4 = t 19 ⊗ t 0 in
    let m5 = m4 ⊕ m1 in
    let m6 = t 3 ⊗ t 16 in
    let m7 = t 22 ⊗ t 9 in
    let m8 = t 26 ⊕ m6 in
    let m9 = t 20 ⊗ t 17 in
    let m10 = m9 ⊕ m6 in
    let m11 = t 1 ⊗ t 15 in
    let m12 = t 4 ⊗ t 27 in
    let m13 = m12 ⊕ m11 in
    let m14 = t 2 ⊗ t 10 in
    let m15 = m14 ⊕ m11 in
    let m16 = m3 ⊕ m2 in
    let m17 = m5 ⊕ t 24 in
    let m18 = m8 ⊕ m7 in
    let m19 = m10 ⊕ m15 in
    (m16 ⊕ m13) ∷ (m17 ⊕ m15) ∷ (m18 ⊕ m13) ∷ (m19 ⊕ t 25) ∷ []

-- m46 to m63, of what `INV_SUMS_IN` gives and then what `INVERTED` gives
unfoldable pub INV_PRODUCTS : List Wire
INV_PRODUCTS =
    let t29 = input 28 in
    let t33 = input 29 in
    let t37 = input 30 in
    let t40 = input 31 in
    let t41 = input 32 in
    let t42 = input 33 in
    let t43 = input 34 in
    let t44 = input 35 in
    let t45 = input 36 in
    (t44 ⊗ t 6) ∷ (t37 ⊗ t 8) ∷ (t33 ⊗ t 0) ∷ (t43 ⊗ t 16) ∷ (t40 ⊗ t 9) ∷ (t29 ⊗ t 17) ∷ (t42 ⊗ t 15) ∷ (t45 ⊗ t 27) ∷ (t41 ⊗ t 10) ∷ (t44 ⊗ t 13) ∷ (t37 ⊗ t 23) ∷ (t33 ⊗ t 19) ∷ (t43 ⊗ t 3) ∷ (t40 ⊗ t 22) ∷ (t29 ⊗ t 20) ∷ (t42 ⊗ t 1) ∷ (t45 ⊗ t 4) ∷ (t41 ⊗ t 2) ∷ []

-- w7 to w0, of those: the eight bits, the lowest first
unfoldable pub INV_SUMS_OUT : List Wire
INV_SUMS_OUT =
    let p0 = m 6 ⊕ m 15 in
    let p1 = m 12 ⊕ m 13 in
    let p2 = m 8 ⊕ m 16 in
    let p3 = m 1 ⊕ m 4 in
    let p4 = m 2 ⊕ m 10 in
    let p5 = m 0 ⊕ m 5 in
    let p6 = m 3 ⊕ m 14 in
    let p7 = p0 ⊕ p1 in
    let p8 = m 4 ⊕ m 7 in
    let p9 = m 9 ⊕ m 17 in
    let p10 = m 11 ⊕ p4 in
    let p11 = p0 ⊕ p3 in
    let p15 = m 8 ⊕ m 13 in
    let p17 = m 12 ⊕ p2 in
    let p18 = m 17 ⊕ p5 in
    let p19 = p2 ⊕ p3 in
    let p20 = p4 ⊕ p6 in
    let p22 = p2 ⊕ p7 in
    let p23 = p7 ⊕ p8 in
    let p24 = p5 ⊕ p7 in
    let p25 = p6 ⊕ p10 in
    let p26 = p9 ⊕ p11 in
    let p27 = p10 ⊕ p18 in
    let p28 = p11 ⊕ p25 in
    let p29 = p15 ⊕ p20 in
    (m 11 ⊕ m 15 ⊕ p9) ∷ (m 3 ⊕ m 16 ⊕ p23) ∷ (p19 ⊕ p24) ∷ (p23 ⊕ p27) ∷ (m 0 ⊕ m 2 ⊕ p22) ∷ (p17 ⊕ p28) ∷ (p26 ⊕ p29) ∷ (m 3 ⊕ m 5 ⊕ p22) ∷ []
