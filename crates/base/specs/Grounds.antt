-- Grounds of refusal in their order: "first ground wins".
use Rattle.std.specs.Prelude.{ℕ, ◌≡◌, Bool, cond, List, [], ◌∷◌, Option, None, Some, Result, Ok, Err}
use Rattle.base.specs.declared.Refusal.{Refusal}
use Rattle.base.specs.declared.Refusal.TheVariants.{UnfitRecord, NotInTable, TargetIsMaster, AllBegun, NoRoom, NoSuchEntry, InMaster, AlreadyCommitted, BehindPosted, AlreadyLatched, AtTarget, NoAnswer, OldestAnswer, AnswerBehind, InConflict, NotSound, ShortList, NotRecords, NotABlock, WrongCheck, WrongHead, OutOfRange, UnusedByte, NoSuchBus, OnOneBus, NotOneWay}

infix 70 ◌when◌
-- a refusal, and whether its ground holds
abbrev pub Ground : Type 0
Ground = Refusal × Bool

abbrev pub ◌when◌ : Refusal → Bool → Ground
n when b = (n, b)

-- first ground wins; None: accepted
abbrev pub refusal : List Ground → Option Refusal
refusal [] = None
refusal (g ∷ gs) = cond g.1 (Some g.0) (refusal gs)

-- what is answered: a, where no ground stands in its way
abbrev pub answer : {A : Type 0} → Option Refusal → A → Result A Refusal
answer None a = Ok a
answer (Some n) a = Err n

-- document 01's number for each ground
abbrev pub number_of : Refusal → ℕ
number_of UnfitRecord = 1
number_of NotInTable = 2
number_of TargetIsMaster = 3
number_of AllBegun = 4
number_of NoRoom = 5
number_of NoSuchEntry = 6
number_of InMaster = 7
number_of AlreadyCommitted = 8
number_of BehindPosted = 9
number_of AlreadyLatched = 10
number_of AtTarget = 11
number_of NoAnswer = 12
number_of OldestAnswer = 13
number_of AnswerBehind = 14
number_of InConflict = 15
number_of NotSound = 16
number_of ShortList = 17
number_of NotRecords = 18
number_of NotABlock = 20
number_of WrongCheck = 21
number_of WrongHead = 22
number_of OutOfRange = 23
number_of UnusedByte = 24
number_of NoSuchBus = 25
number_of OnOneBus = 26
number_of NotOneWay = 27

abbrev pub IsNumber : Refusal → ℕ → Type 0
IsNumber r n = n ≡ number_of r

-- the number of an answer; 0, which is no ground's, where it is not a refusal
abbrev pub number : {A : Type 0} → Result A Refusal → ℕ
number (Ok a) = 0
number (Err r) = number_of r

-- the same of a ground that holds, or none
abbrev pub number_or_0 : Option Refusal → ℕ
number_or_0 None = 0
number_or_0 (Some r) = number_of r
