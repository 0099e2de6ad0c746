-- What is put on a page, one after the other.
use Rattle.std.proofs.Common.{◌≡◌, ℕ, List, ◌++◌, ap, ◌∙◌, append_assoc}
use Rattle.hdl_proxy.specs.Escape.{escaped}
use Rattle.hdl_proxy.specs.Pages.{element}

pub two : (x y z a b : List ℕ) → y ≡ x ++ a → z ≡ y ++ b → z ≡ x ++ (a ++ b)
two x y z a b e f = f ∙ ap (λ (t : List ℕ). t ++ b) e ∙ append_assoc x a b

pub three : (x y1 y2 y3 a1 a2 a3 : List ℕ) → y1 ≡ x ++ a1 → y2 ≡ y1 ++ a2 → y3 ≡ y2 ++ a3 → y3 ≡ x ++ (a1 ++ (a2 ++ a3))
three x y1 y2 y3 a1 a2 a3 e1 e2 e3 =
    two x y1 y3 a1 (a2 ++ a3) e1 (two y1 y2 y3 a2 a3 e2 e3)

pub four : (x y1 y2 y3 y4 a1 a2 a3 a4 : List ℕ) → y1 ≡ x ++ a1 → y2 ≡ y1 ++ a2 → y3 ≡ y2 ++ a3 → y4 ≡ y3 ++ a4 → y4 ≡ x ++ (a1 ++ (a2 ++ (a3 ++ a4)))
four x y1 y2 y3 y4 a1 a2 a3 a4 e1 e2 e3 e4 =
    two x y1 y4 a1 (a2 ++ (a3 ++ a4)) e1 (three y1 y2 y3 y4 a2 a3 a4 e2 e3 e4)

pub five : (x y1 y2 y3 y4 y5 a1 a2 a3 a4 a5 : List ℕ) → y1 ≡ x ++ a1 → y2 ≡ y1 ++ a2 → y3 ≡ y2 ++ a3 → y4 ≡ y3 ++ a4 → y5 ≡ y4 ++ a5 → y5 ≡ x ++ (a1 ++ (a2 ++ (a3 ++ (a4 ++ a5))))
five x y1 y2 y3 y4 y5 a1 a2 a3 a4 a5 e1 e2 e3 e4 e5 =
    two x y1 y5 a1 (a2 ++ (a3 ++ (a4 ++ a5))) e1 (four y1 y2 y3 y4 y5 a2 a3 a4 a5 e2 e3 e4 e5)

pub six : (x y1 y2 y3 y4 y5 y6 a1 a2 a3 a4 a5 a6 : List ℕ) → y1 ≡ x ++ a1 → y2 ≡ y1 ++ a2 → y3 ≡ y2 ++ a3 → y4 ≡ y3 ++ a4 → y5 ≡ y4 ++ a5 → y6 ≡ y5 ++ a6 → y6 ≡ x ++ (a1 ++ (a2 ++ (a3 ++ (a4 ++ (a5 ++ a6)))))
six x y1 y2 y3 y4 y5 y6 a1 a2 a3 a4 a5 a6 e1 e2 e3 e4 e5 e6 =
    two x y1 y6 a1 (a2 ++ (a3 ++ (a4 ++ (a5 ++ a6)))) e1 (five y1 y2 y3 y4 y5 y6 a2 a3 a4 a5 a6 e2 e3 e4 e5 e6)

pub seven : (x y1 y2 y3 y4 y5 y6 y7 a1 a2 a3 a4 a5 a6 a7 : List ℕ) → y1 ≡ x ++ a1 → y2 ≡ y1 ++ a2 → y3 ≡ y2 ++ a3 → y4 ≡ y3 ++ a4 → y5 ≡ y4 ++ a5 → y6 ≡ y5 ++ a6 → y7 ≡ y6 ++ a7 → y7 ≡ x ++ (a1 ++ (a2 ++ (a3 ++ (a4 ++ (a5 ++ (a6 ++ a7))))))
seven x y1 y2 y3 y4 y5 y6 y7 a1 a2 a3 a4 a5 a6 a7 e1 e2 e3 e4 e5 e6 e7 =
    two x y1 y7 a1 (a2 ++ (a3 ++ (a4 ++ (a5 ++ (a6 ++ a7))))) e1 (six y1 y2 y3 y4 y5 y6 y7 a2 a3 a4 a5 a6 a7 e2 e3 e4 e5 e6 e7)

pub eight : (x y1 y2 y3 y4 y5 y6 y7 y8 a1 a2 a3 a4 a5 a6 a7 a8 : List ℕ) → y1 ≡ x ++ a1 → y2 ≡ y1 ++ a2 → y3 ≡ y2 ++ a3 → y4 ≡ y3 ++ a4 → y5 ≡ y4 ++ a5 → y6 ≡ y5 ++ a6 → y7 ≡ y6 ++ a7 → y8 ≡ y7 ++ a8
    → y8 ≡ x ++ (a1 ++ (a2 ++ (a3 ++ (a4 ++ (a5 ++ (a6 ++ (a7 ++ a8)))))))
eight x y1 y2 y3 y4 y5 y6 y7 y8 a1 a2 a3 a4 a5 a6 a7 a8 e1 e2 e3 e4 e5 e6 e7 e8 =
    two x y1 y8 a1 (a2 ++ (a3 ++ (a4 ++ (a5 ++ (a6 ++ (a7 ++ a8)))))) e1 (seven y1 y2 y3 y4 y5 y6 y7 y8 a2 a3 a4 a5 a6 a7 a8 e2 e3 e4 e5 e6 e7 e8)

-- the text that was put is this one
pub said : (x y t s : List ℕ) → y ≡ x ++ escaped t → t ≡ s → y ≡ x ++ escaped s
said x y t s e same = e ∙ ap (λ (u : List ℕ). x ++ escaped u) same

-- the element that was put has this text
pub put_as : (x y front t s back : List ℕ) → y ≡ x ++ element front t back → t ≡ s → y ≡ x ++ element front s back
put_as x y front t s back e same = e ∙ ap (λ (u : List ℕ). x ++ element front u back) same
