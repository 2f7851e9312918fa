-- Numbers and statements of some numbers, worked by hand.
use Rattle.std.proofs.Common.{◌≡◌, ◌+◌, ◌*◌, ◌++◌, refl, codes, decimal}
use Rattle.jz_gen.specs.Programs.{next_number, variable, cell, branch, statement_of}

-- 1103515245 + 12345, and 16838 times 65536 below it: 16838 is 6 + 8*0 + 32*2 + 128*3 + 1024*16
after_one : next_number 1 ≡ 1103527590
unfolding next_number
after_one = refl

-- the greatest number of 31 bits
after_the_greatest : next_number 2147483647 ≡ 1043980748
unfolding next_number
after_the_greatest = refl

-- each kind with 1, 2 and 3: 456 is 0 + 8*1 + 32*2 + 128*3
kind_0 : statement_of (456 * 65536) ≡ variable 1 ++ codes " += " ++ variable 2 ++ codes ";"
kind_0 = refl

kind_1 : statement_of (457 * 65536) ≡ variable 1 ++ codes " -= " ++ cell 3 ++ codes ";"
kind_1 = refl

kind_3 : statement_of (459 * 65536 + 65535) ≡ cell 3 ++ codes " = " ++ variable 1 ++ codes ";"
kind_3 = refl

kind_5 : statement_of (461 * 65536) ≡ variable 1 ++ codes " <<r= " ++ decimal 4 ++ codes ";"
kind_5 = refl

kind_7 : statement_of (463 * 65536) ≡ branch (variable 1) (variable 2)
kind_7 = refl

-- 32761 is 1 + 8*3 + 32*3 + 128*7 + 1024*31
greatest : statement_of (32761 * 65536) ≡ variable 3 ++ codes " -= " ++ cell 7 ++ codes ";"
greatest = refl
