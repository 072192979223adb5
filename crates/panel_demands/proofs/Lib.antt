-- The demands (`first_demand`, `second_demand`, `third_demand`) and what they say of cells (`cell_settled`, `cells_in_third_demand`), areas that
-- share a cell (`overlap_theorem`), area pictures (`picture_theorem`, `picture_accepted_exactly`), the marked edges (`marked`), and the third
-- demand at worked runs.
pub mod Former
pub mod Demands
pub mod Overlaps
pub mod Pictures
pub mod PictureSheets
pub mod Cells
pub mod Marked
pub mod Worked
