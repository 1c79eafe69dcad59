pub mod Glued
