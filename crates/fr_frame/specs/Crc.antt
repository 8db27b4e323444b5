-- The two cyclic redundancy checks of a frame, as long division of a list of bits. Chapter 4 gives them as a register
-- that shifts in one bit after another.
use Rattle.std.specs.Prelude.{ℕ, zero, suc, Bool, true, false, List, [], ◌∷◌, ◌++◌, length, drop, replicate}
use Rattle.std.specs.Prelude.{if◌then◌else◌}
use Rattle.fr_frame.specs.Bits.{bits_of, bits_of_bytes}
use Rattle.fr_slots.specs.declared.channel.Channel.{Channel}
use Rattle.fr_slots.specs.declared.channel.Channel.TheVariants.{A, B}

-- the xor of two bits
abbrev pub differ : Bool → Bool → Bool
differ true true = false
differ true false = true
differ false true = true
differ false false = false

-- the bits, with a mask xored onto their front
unfoldable pub xor_front : List Bool → List Bool → List Bool
xor_front [] bits = bits
xor_front (m ∷ mask) [] = []
xor_front (m ∷ mask) (bit ∷ bits) = differ m bit ∷ xor_front mask bits

-- One step of the division. If the first bit is 1, the divisor is xored onto the front, which makes that bit 0. Then
-- the first bit is dropped.
unfoldable pub divide_once : List Bool → List Bool → List Bool
divide_once divisor [] = []
divide_once divisor (bit ∷ bits) = drop 1 (if bit then xor_front divisor (bit ∷ bits) else bit ∷ bits)

-- so many steps
unfoldable pub divide : List Bool → ℕ → List Bool → List Bool
divide divisor zero bits = bits
divide divisor (suc steps) bits = divide divisor steps (divide_once divisor bits)

-- The check of a message. As many zeros as the check is wide follow the message, and the initial value, which is as
-- wide, is xored onto the front. Each step drops one bit. So the check remains after as many steps as the message has
-- bits. The divisor is the polynomial with its leading 1, one bit wider than the check.
abbrev pub remainder : List Bool → List Bool → List Bool → List Bool
remainder divisor initial message =
    divide divisor (length message) (xor_front initial (message ++ replicate (length initial) false))

-- ---- the header CRC: 11 bits

-- x^11 + x^9 + x^8 + x^7 + x^2 + 1, without its leading 1
abbrev pub header_polynomial : ℕ
header_polynomial = 0x385

abbrev pub header_initial : ℕ
header_initial = 0x01A

abbrev pub header_divisor : List Bool
header_divisor = true ∷ bits_of 11 header_polynomial

abbrev pub header_check : List Bool → List Bool
header_check message = remainder header_divisor (bits_of 11 header_initial) message

-- ---- the frame CRC: 24 bits, with an initial value for each channel, so that no frame passes on the other one

-- the polynomial without its leading 1
abbrev pub frame_polynomial : ℕ
frame_polynomial = 0x5D6DCB

abbrev pub frame_divisor : List Bool
frame_divisor = true ∷ bits_of 24 frame_polynomial

abbrev pub initial_of : Channel → ℕ
initial_of A = 0xFEDCBA
initial_of B = 0xABCDEF

abbrev pub frame_check : Channel → List ℕ → List Bool
frame_check channel bytes = remainder frame_divisor (bits_of 24 (initial_of channel)) (bits_of_bytes bytes)
